use Rattle.hx_reach.proofs.useful_ors.OrSearch.+widen.Given as goal

abbrev pub decreases-widen : goal.decreases-widen
decreases-widen l = l.left
