use Rattle.hx_linkset.proofs.LossLaws.{filled-dead, untaken-live}
use Rattle.hx_linkset.proofs.liveness.is_dropped.Goals as goal

pub returns-then-meets-clause-dropped : goal.returns-then-meets-clause-dropped
returns-then-meets-clause-dropped c = λ before after new player l is_allowed taken.
    filled-dead c.args.losses.now before after l new player is_allowed c.args.link.now (c.meets.ensures.one.0 c.if-meets.true)

pub returns-else-meets-clause-kept : goal.returns-else-meets-clause-kept
returns-else-meets-clause-kept c = λ before after old new player l was_allowed is_allowed kept live.
    untaken-live c.args.losses.now before after l new player is_allowed old was_allowed c.args.link.now
    (c.meets.ensures.none.0 c.if-meets.false) live
    (c.loses_end.ensures.kept before after old new player l was_allowed is_allowed kept live)
