use Rattle.hx_play.proofs.StandLaws.{stands_wins}
use Rattle.hx_play.proofs.players.Player.winner.Goals as goal

pub returns-clause-wins : goal.returns-clause-wins
returns-clause-wins c = rw (← c.self.view_is) (stands_wins c.self.inside.nodes.items c.self.inside.stand c.self.invariant)
