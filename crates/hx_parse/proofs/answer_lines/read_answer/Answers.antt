use Rattle.std.proofs.Common.{◌∙◌}
use Rattle.hx_tree.specs.Answers.{cell_of}
use Rattle.hx_lex.proofs.Cursors.{rest_same}
use Rattle.hx_text.proofs.AnswerLines.{words_in-answer_line}
use Rattle.hx_parse.proofs.AnswerReads.{answer_reads}
use Rattle.hx_parse.proofs.answer_lines.read_answer.Goals as goal

pub returns-in_err-keyword : goal.returns-in_err-keyword
returns-in_err-keyword c = rw c.from_residual.ensures (λ v fits e.
    let at_keyword = c.of-words.ensures ∙ words_in-answer_line c.args.size _ v c.rows-rows.ensures.valid fits e in
    c.in_err-keyword.ensures.takes tt _ tt at_keyword)

pub returns-in_err-cell : goal.returns-in_err-cell
returns-in_err-cell c = rw c.from_residual-in_err-cell.ensures (λ v fits e.
    let at_keyword = c.of-words.ensures ∙ words_in-answer_line c.args.size _ v c.rows-rows.ensures.valid fits e in
    let at_cell = rest_same c.in_ok-keyword.ensures.takes.1 at_keyword in
    c.in_err-cell.ensures (cell_of v) _ fits.0 at_cell)

pub returns : goal.returns
returns c =
    answer_reads c.args.size _ _ _ _ _ _ c.rows-rows.ensures.valid c.of-words.ensures c.in_ok-keyword.ensures.takes.1 c.in_ok-cell.ensures.0
    c.in_ok-cell.ensures.1 c.read_reason.ensures
