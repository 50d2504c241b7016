use Rattle.hx_reach.specs.Growth.{IsGrown}
use Rattle.hx_search.specs.Progress.{IsEndSettledBelow}
use Rattle.hx_search.proofs.ands.settle_end.Given as goal

abbrev pub invariant-loop-code : goal.invariant-loop-code
invariant-loop-code l = record {
  grown : IsGrown l.initial.set l.set;
  settled : IsEndSettledBelow l.set l.own l.fn.end l.fn.right l.code;
}
