use Rattle.std.proofs.Common.{sym, ◌∙◌}
use Rattle.std.proofs.lemmas.Bool.{false≢true}
use Rattle.hx_board.proofs.SetLaws.{has-empty}
use Rattle.hx_board.proofs.CellLaws.{on_board-small}
use Rattle.hx_fill.proofs.KillerLaws.{cells_have, killers_by_dead-neighbours}
use Rattle.hx_fill.proofs.dominations.BothGroups.killers_by_dead.Goals as goal

pub makers_of-makers-requires-clause-among : goal.makers_of-makers-requires-clause-among
makers_of-makers-requires-clause-among c = λ n h. absurd (false≢true (sym (has-empty n) ∙ (rw c.empty.ensures at h)))

pub returns : goal.returns
returns c =
    let makers = rw (c.of-others.ensures, c.other.ensures) at c.makers_of-makers.ensures in
    λ better dominated. cells_have c.args.around c.cells.result better c.cells.ensures
    (on_board-small _ better c.size-size.ensures.valid.0 dominated.better_empty.on_board)
    (killers_by_dead-neighbours c.args.self.now.position c.args.self.now.mover c.args.cell c.args.around c.requires.around
    (λ dead. false≢true (sym c.if-makers.false ∙ makers.dead.1 dead)) better dominated)
