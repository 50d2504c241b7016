use Rattle.hx_reach.specs.Growth.{IsGrown}
use Rattle.hx_search.specs.Progress.{IsChainSettledTo}
use Rattle.hx_search.proofs.AndLaws.{chain_left}
use Rattle.hx_search.proofs.ands.settle_chain.Given as goal

abbrev pub invariant-loop-next : goal.invariant-loop-next
invariant-loop-next l = record {
  grown : IsGrown l.initial.set l.set;
  settled : IsChainSettledTo l.set l.fn.own l.fn.end l.fn.to l.fn.right l.next;
}

abbrev pub decreases-loop-next : goal.decreases-loop-next
decreases-loop-next l = chain_left l.next l.fn.right
