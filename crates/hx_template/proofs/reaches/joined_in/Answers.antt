use Rattle.std.proofs.Common.{◌≡◌, ℕ, ◌<◌, true, ap, sym, ◌∙◌, arith, ltb}
use Rattle.std.proofs.lemmas.Bool.{false≢true, and_parts, and_from, lt-ltb}
use Rattle.hx_board.specs.declared.colours.Colour.{Colour}
use Rattle.hx_board.specs.Positions.{stones_of}
use Rattle.hx_board.specs.Sets.{has}
use Rattle.hx_board.specs.Cells.{OnBoard}
use Rattle.hx_board.proofs.CellLaws.{on_board-small}
use Rattle.hx_board.proofs.Tallies.{count_below-remove}
use Rattle.hx_template.proofs.ReachLaws.{are_new, reach_first, reach_next, reach_all}
use Rattle.hx_template.proofs.reaches.joined_in.Goals as goal

pub loop-cell-init : goal.loop-cell-init
loop-cell-init c =
    let same = c.stones.ensures.value ∙ ap (λ (p : Colour). stones_of c.args.position.now p) c.requires.player in
    reach_first c.args.groups.now.board c.args.carrier c.args.position.now c.args.groups.now.player c.requires.filling c.args.a
    c.meet-own.result c.joined_with-reach.result
    c.joined_with-reach.ensures
    (are_new c.args.groups.now.board c.args.carrier c.args.position.now c.args.groups.now.player c.requires.filling c.stones.result
    c.meet-own.result same c.meet-own.ensures.members)

pub loop-cell-smaller : goal.loop-cell-smaller
loop-cell-smaller c =
    let both = and_parts (has c.cells.result c.in-Some.cell) (has c.loop-cell.left c.in-Some.cell)
    (sym (c.meet.ensures.members c.in-Some.cell) ∙ c.in-Some.ensures.member) in
    let extent = rw (← c.size-size.ensures.value) at c.size-size.ensures.valid.0 in
    let small : c.in-Some.cell < 121 = on_board-small c.size-size.result c.in-Some.cell extent c.in-Some.ensures.on_board in
    let less : c.in-Some.cell < 128 = omega (arith, small) in
    rw c.without-left.ensures.set (omega (arith, count_below-remove 128 c.loop-cell.left c.in-Some.cell both.1 less))

pub loop-cell-preserved : goal.loop-cell-preserved
loop-cell-preserved c =
    let both = and_parts (has c.cells.result c.in-Some.cell) (has c.loop-cell.left c.in-Some.cell)
    (sym (c.meet.ensures.members c.in-Some.cell) ∙ c.in-Some.ensures.member) in
    let reached = and_parts (has c.loop-cell.reach c.in-Some.cell) (ltb c.in-Some.cell 121)
    (sym (c.cells.ensures c.in-Some.cell) ∙ both.0) in
    let on = rw (c.size-size.ensures.value, c.requires.filling.size) at c.in-Some.ensures.on_board in
    rw (c.without-left.ensures.set, c.union-reach.ensures.set)
    (reach_next c.args.groups.now.board c.args.carrier c.args.position.now c.args.groups.now.player c.requires.filling c.args.a
    c.loop-cell.left c.loop-cell.reach c.loop-cell.invariant
    c.in-Some.cell c.joined_with.result on reached.0 both.1 c.joined_with.ensures)

pub returns : goal.returns
returns c =
    let extent = rw (← c.size-size.ensures.value) at c.size-size.ensures.valid.0 in
    let through : (cell : ℕ) → OnBoard c.args.groups.now.board.size cell → has c.loop-cell.reach cell ≡ true
    → has c.loop-cell.left cell ≡ true → ⊥ =
    λ cell on h waits.
    let here : OnBoard c.size-size.result cell = rw (c.size-size.ensures.value, c.requires.filling.size) on in
    let small : cell < 121 = on_board-small c.size-size.result cell extent here in
    false≢true (sym (c.in_default.ensures cell here)
    ∙ (c.meet.ensures.members cell ∙ and_from (has c.cells.result cell) (has c.loop-cell.left cell)
    (c.cells.ensures cell ∙ and_from (has c.loop-cell.reach cell) (ltb cell 121) h (lt-ltb cell 121 small)) waits)) in
    rw c.has.ensures
    (reach_all c.args.groups.now.board c.args.carrier c.args.position.now c.args.groups.now.player c.requires.filling c.args.a
    c.loop-cell.left c.loop-cell.reach c.loop-cell.invariant through
    c.args.b c.requires.a_vertex c.requires.b_vertex)
