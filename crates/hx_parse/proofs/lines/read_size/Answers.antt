use Rattle.std.proofs.Common.{◌∙◌, arith}
use Rattle.hx_lex.proofs.Cursors.{rest_same, word_then}
use Rattle.hx_lex.proofs.Spacing.{line_from_words}
use Rattle.hx_text.proofs.LineWords.{words_in-size_line}
use Rattle.hx_parse.proofs.SizeReads.{size_reads}
use Rattle.hx_parse.proofs.lines.read_size.Goals as goal

pub returns-in_err-keyword : goal.returns-in_err-keyword
returns-in_err-keyword c = rw c.from_residual.ensures (λ v fits e.
    let at_keyword = c.of-words.ensures ∙ words_in-size_line _ v fits e in
    c.in_err-keyword.ensures.takes tt _ tt at_keyword)

pub returns-in_err-rows : goal.returns-in_err-rows
returns-in_err-rows c = rw c.from_residual-in_err-rows.ensures (λ v fits e.
    let at_keyword = c.of-words.ensures ∙ words_in-size_line _ v fits e in
    let at_rows = rest_same c.in_ok-keyword.ensures.takes.1 at_keyword in
    c.in_err-rows.ensures v.rows _ (omega (arith, fits)) at_rows)

pub returns-in_err-cols : goal.returns-in_err-cols
returns-in_err-cols c = rw c.from_residual-in_err-cols.ensures (λ v fits e.
    let at_keyword = c.of-words.ensures ∙ words_in-size_line _ v fits e in
    let at_rows = rest_same c.in_ok-keyword.ensures.takes.1 at_keyword in
    let at_cols = rest_same c.in_ok-rows.ensures.1 at_rows in
    c.in_err-cols.ensures v.cols _ (omega (arith, fits)) at_cols)

pub returns-in_err-end : goal.returns-in_err-end
returns-in_err-end c = rw c.from_residual-in_err-end.ensures (λ v fits e.
    let at_keyword = c.of-words.ensures ∙ words_in-size_line _ v fits e in
    let at_rows = rest_same c.in_ok-keyword.ensures.takes.1 at_keyword in
    let at_cols = rest_same c.in_ok-rows.ensures.1 at_rows in
    let at_end = rest_same c.in_ok-cols.ensures.1 at_cols in
    c.in_err-end.ensures at_end)

pub returns : goal.returns
returns c = size_reads _ _ _ _ c.in_ok-rows.ensures.0 c.in_ok-cols.ensures.0
    (line_from_words c.of-words.ensures
    (word_then c.in_ok-keyword.ensures.takes.1
    (word_then c.in_ok-rows.ensures.1 (word_then c.in_ok-cols.ensures.1 (c.in_ok-end.ensures))))) c.size_of.ensures
