use Rattle.hx_reach.specs.Growth.{IsGrown}
use Rattle.hx_search.specs.Progress.{AreBasesBelow}
use Rattle.hx_search.proofs.bases.settle_bases.Given as goal

abbrev pub invariant-loop-code : goal.invariant-loop-code
invariant-loop-code l = record {
  grown : IsGrown l.initial.set l.set;
  settled : AreBasesBelow l.set l.code;
}
