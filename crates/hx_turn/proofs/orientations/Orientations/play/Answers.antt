use Rattle.hx_board.specs.Positions.{IsEmpty}
use Rattle.hx_turn.proofs.TurnedStoneLaws.{empty-turned_of, put-turned_of}
use Rattle.hx_turn.proofs.orientations.Orientations.play.Goals as goal

pub play-requires-2 : goal.play-requires-2
play-requires-2 c =
    let empty : IsEmpty c.self.inside.position c.args.cell = rw c.self.view_is c.requires in
    rw (c.turned_cell-there.ensures, c.size.ensures.value, c.self.invariant)
    (empty-turned_of c.self.inside.position c.size.ensures.valid c.args.cell empty)

pub invariant_of-self : goal.invariant_of-self
invariant_of-self c =
    let empty : IsEmpty c.self.inside.position c.args.cell = rw c.self.view_is c.requires in
    rw (c.play-2.ensures, c.play.ensures, c.turned_cell-there.ensures, c.size.ensures.value, c.self.invariant)
    (put-turned_of c.self.inside.position c.size.ensures.valid c.args.cell empty c.args.colour)
