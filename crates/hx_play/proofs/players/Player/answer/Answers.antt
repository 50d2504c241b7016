use Rattle.hx_play.proofs.StandLaws.{chain-before}
use Rattle.hx_play.proofs.GameLaws.{plays_move}
use Rattle.hx_play.proofs.players.Player.answer.Goals as goal

pub unreachable-requires : goal.unreachable-requires
unreachable-requires c =
    (rw (← c.self.view_is) at c.requires.going)
    (chain-before c.self.inside.stand.winner c.self.inside.stand.position c.args.cell c.in-None.ensures)

pub returns : goal.returns
returns c = rw (← c.self.view_is) (plays_move _ _ _ _ _ c.in-Some.ensures)
