use Rattle.hx_board.proofs.CellLaws.{on_board-small}
use Rattle.hx_fill.proofs.ReachLaws.{holds-open}
use Rattle.hx_fill.proofs.KillerLaws.{cells_have, killers_by_pair-reached}
use Rattle.hx_fill.proofs.dominations.BothGroups.killers_by_pair.Goals as goal

pub reached_around-requires : goal.reached_around-requires
reached_around-requires c = rw c.of-own.ensures c.requires.around.vertices

pub returns-in-None : goal.returns-in-None
returns-in-None c =
    let makers = rw c.of-own.ensures at c.makers_of-makers.ensures in
    let none = rw c.of-own.ensures at c.in-None.ensures in
    let near = rw c.of-own.ensures at c.reached_around.ensures in
    let near_each = rw c.of-own.ensures at c.reached_around_each-by_makers.ensures in
    λ better partner dominated. cells_have c.union.result c.cells.result better c.cells.ensures
    (on_board-small _ better c.size-size.ensures.valid.0 dominated.better_empty.on_board)
    (rw c.union.ensures.set
    (killers_by_pair-reached c.args.self.now.position c.args.self.now.mover c.args.cell c.empties.result
    c.makers_of-makers.result c.reached_around.result c.reached_around_each-by_makers.result
    c.empties.ensures makers (λ n among pair. none n (among, pair))
    (holds-open c.args.self.now.position c.args.self.now.mover c.args.cell c.args.around c.reached_around.result
    c.requires.around near) near_each better partner dominated))
