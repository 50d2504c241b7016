use Rattle.std.proofs.Common.{◌≤◌, sym, ◌∙◌}
use Rattle.std.proofs.lemmas.Bool.{false≢true}
use Rattle.hx_play.proofs.LineNames.{no_cell, no_more_words, names_cell, other_cell}
use Rattle.hx_play.proofs.replies.empty_cell.Goals as goal

pub returns-in_err-cell : goal.returns-in_err-cell
returns-in_err-cell c =
    let few : c.args.position.now.size.rows ≤ 11 = rw c.size-size.ensures.value at c.rows-rows.ensures.valid.1 in
    let none = rw (c.of-words.ensures, c.size-size.ensures.value) at c.in_err-cell.ensures in
    rw c.from_residual.ensures (no_cell c.args.position.now c.args.line.now few c.cell.new.self none)

pub returns-in_err-end : goal.returns-in_err-end
returns-in_err-end c =
    let few : c.args.position.now.size.rows ≤ 11 = rw c.size-size.ensures.value at c.rows-rows.ensures.valid.1 in
    let takes = rw (c.of-words.ensures, c.size-size.ensures.value) at c.in_ok-cell.ensures in
    rw c.from_residual-in_err-end.ensures
    (no_more_words c.args.position.now c.args.line.now few c.in_ok-cell.cell c.cell.new.self takes.1 c.in_err-end.ensures)

pub returns-then-has : goal.returns-then-has
returns-then-has c =
    let few : c.args.position.now.size.rows ≤ 11 = rw c.size-size.ensures.value at c.rows-rows.ensures.valid.1 in
    let takes = rw (c.of-words.ensures, c.size-size.ensures.value) at c.in_ok-cell.ensures in
    names_cell c.args.position.now c.args.line.now few c.in_ok-cell.cell c.cell.new.self takes.1 c.in_ok-end.ensures
    ((c.empties.ensures c.in_ok-cell.cell).0 (sym c.has.ensures ∙ c.if-has.true))

pub returns-else-has : goal.returns-else-has
returns-else-has c =
    let few : c.args.position.now.size.rows ≤ 11 = rw c.size-size.ensures.value at c.rows-rows.ensures.valid.1 in
    let takes = rw (c.of-words.ensures, c.size-size.ensures.value) at c.in_ok-cell.ensures in
    other_cell c.args.position.now c.args.line.now few c.in_ok-cell.cell c.cell.new.self takes.1 takes.0
    (λ empty. false≢true (sym c.if-has.false ∙ c.has.ensures ∙ (c.empties.ensures c.in_ok-cell.cell).1 empty))
