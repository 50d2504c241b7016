use Rattle.hx_fill.proofs.KillerLaws.{killers-both}
use Rattle.hx_fill.proofs.dominations.BothGroups.killers.Goals as goal

pub returns : goal.returns
returns c = rw c.union.ensures.set
    (killers-both c.args.self.now.position c.args.self.now.mover c.args.worse c.killers_by_dead-by_dead.result
    c.killers_by_pair-by_pair.result
    c.killers_by_dead-by_dead.ensures c.killers_by_pair-by_pair.ensures)
