use Rattle.std.proofs.Common.{◌≡◌, ℕ, ap, ◌∙◌}
use Rattle.std.specs.Prelude.{codes, ◌-◌, ◌*◌}
use Rattle.hx_board.specs.Cells.{Extent}
use Rattle.hx_board.specs.Sets.{count_below}
use Rattle.hx_io.proofs.SinkLaws.{WritesAll-then, WritesAll-cut}
use Rattle.hx_answers.specs.Texts.{numbered_text, counted_text}
use Rattle.hx_cmd_survey.proofs.texts.write_counts.Goals as goal

pub returns-in-Ok : goal.returns-in-Ok
returns-in-Ok g c =
    let size = c.args.table.now.size in
    let black = count_below 128 c.args.table.now.cells_of_black in
    let is_black : c.from-black.result ≡ black = c.from-black.ensures ∙ c.black.ensures in
    let rows : c.from.result ≡ size.rows = c.from.ensures ∙ c.rows.ensures.value
    ∙ ap (λ (s : Extent). s.rows) c.size-size.ensures in
    let cols : c.from-2.result ≡ size.cols = c.from-2.ensures ∙ c.cols.ensures.value
    ∙ ap (λ (s : Extent). s.cols) c.size-size.ensures in
    WritesAll-then _ _ _ _ _ (numbered_text (codes "black ") black) (counted_text (codes " white ") (size.rows * size.cols - black))
    (rw is_black at c.in-Ok.ensures)
    (rw (c.saturating_sub.ensures ∙ ap (λ (n : ℕ). n * c.from-2.result - c.from-black.result) rows
    ∙ ap (λ (n : ℕ). size.rows * n - c.from-black.result) cols ∙ ap (λ (n : ℕ). size.rows * size.cols - n) is_black)
    at c.write_counted.ensures)

pub returns-in-Err : goal.returns-in-Err
returns-in-Err g c =
    let size = c.args.table.now.size in
    let black = count_below 128 c.args.table.now.cells_of_black in
    WritesAll-cut _ _ _ (numbered_text (codes "black ") black) (counted_text (codes " white ") (size.rows * size.cols - black))
    (rw (c.from-black.ensures ∙ c.black.ensures) at c.in-Err.ensures)
