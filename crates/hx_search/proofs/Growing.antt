-- What a function needs that has a set grow more than once.
use Rattle.hx_reach.proofs.GrowthLaws.{grown-itself, grown-on}

pub ruleset growing = (grown-itself, grown-on)
