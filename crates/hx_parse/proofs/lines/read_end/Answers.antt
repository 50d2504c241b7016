use Rattle.std.proofs.Common.{◌∙◌}
use Rattle.hx_lex.proofs.Cursors.{rest_same, word_then}
use Rattle.hx_lex.proofs.Spacing.{line_from_words}
use Rattle.hx_text.proofs.LineWords.{words_in-end_line}
use Rattle.hx_parse.proofs.lines.read_end.Goals as goal

pub returns-in_err-keyword : goal.returns-in_err-keyword
returns-in_err-keyword c = rw c.from_residual.ensures (λ v fits e.
    let at_keyword = c.of-words.ensures ∙ words_in-end_line _ v.count v.winner fits e in
    c.in_err-keyword.ensures.takes tt _ tt at_keyword)

pub returns-in_err-count : goal.returns-in_err-count
returns-in_err-count c = rw c.from_residual-in_err-count.ensures (λ v fits e.
    let at_keyword = c.of-words.ensures ∙ words_in-end_line _ v.count v.winner fits e in
    let at_count = rest_same c.in_ok-keyword.ensures.takes.1 at_keyword in
    c.in_err-count.ensures v.count _ fits at_count)

pub returns-in_err-winner : goal.returns-in_err-winner
returns-in_err-winner c = rw c.from_residual-in_err-winner.ensures (λ v fits e.
    let at_keyword = c.of-words.ensures ∙ words_in-end_line _ v.count v.winner fits e in
    let at_count = rest_same c.in_ok-keyword.ensures.takes.1 at_keyword in
    let at_winner = rest_same c.in_ok-count.ensures.1 at_count in
    c.in_err-winner.ensures v.winner _ tt at_winner)

pub returns-in_err-end : goal.returns-in_err-end
returns-in_err-end c = rw c.from_residual-in_err-end.ensures (λ v fits e.
    let at_keyword = c.of-words.ensures ∙ words_in-end_line _ v.count v.winner fits e in
    let at_count = rest_same c.in_ok-keyword.ensures.takes.1 at_keyword in
    let at_winner = rest_same c.in_ok-count.ensures.1 at_count in
    let at_end = rest_same c.in_ok-winner.ensures.1 at_winner in
    c.in_err-end.ensures at_end)

pub returns : goal.returns
returns c = (
  c.in_ok-count.ensures.0,
  line_from_words c.of-words.ensures
      (word_then c.in_ok-keyword.ensures.takes.1
      (word_then c.in_ok-count.ensures.1 (word_then c.in_ok-winner.ensures.1 (c.in_ok-end.ensures)))),
)
