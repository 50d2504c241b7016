use Rattle.hx_turn.proofs.TurnedStoneLaws.{is-turned_of}
use Rattle.hx_turn.proofs.orientations.Orientations.of.Goals as goal

pub invariant_of-result : goal.invariant_of-result
invariant_of-result c = is-turned_of c.args.position.now c.turned.result c.size-size.ensures.valid c.turned.ensures.turned
