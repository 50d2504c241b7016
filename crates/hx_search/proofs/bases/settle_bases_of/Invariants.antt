use Rattle.hx_reach.specs.Growth.{IsGrown}
use Rattle.hx_search.specs.Progress.{AreBasesOf}
use Rattle.hx_search.proofs.bases.settle_bases_of.Given as goal

abbrev pub invariant-loop-code : goal.invariant-loop-code
invariant-loop-code l = record {
  grown : IsGrown l.initial.set l.set;
  settled : AreBasesOf l.set l.fn.a l.fn.from l.code;
}
