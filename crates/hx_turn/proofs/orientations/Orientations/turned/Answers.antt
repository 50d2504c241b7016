use Rattle.hx_turn.proofs.TurnedStoneLaws.{turned_of-is}
use Rattle.hx_turn.proofs.orientations.Orientations.turned.Goals as goal

pub returns : goal.returns
returns c = rw (← c.self.view_is, c.self.invariant) (turned_of-is c.self.inside.position c.size-size.ensures.valid)
