use Rattle.std.proofs.Common.{◌∙◌}
use Rattle.hx_lex.proofs.Cursors.{rest_same, word_then}
use Rattle.hx_lex.proofs.Spacing.{line_from_words}
use Rattle.hx_template_text.proofs.LineWords.{words_in-ends_line}
use Rattle.hx_template_text.proofs.lines.read_ends.Goals as goal

pub returns-in_err-keyword : goal.returns-in_err-keyword
returns-in_err-keyword c = rw c.from_residual.ensures (λ v fits e.
    let at_keyword = c.of-words.ensures ∙ words_in-ends_line c.args.size c.requires v.a v.b fits.0 fits.1 _ e in
    c.in_err-keyword.ensures.takes tt _ tt at_keyword)

pub returns-in_err-a : goal.returns-in_err-a
returns-in_err-a c = rw c.from_residual-in_err-a.ensures (λ v fits e.
    let at_keyword = c.of-words.ensures ∙ words_in-ends_line c.args.size c.requires v.a v.b fits.0 fits.1 _ e in
    let at_a = rest_same c.in_ok-keyword.ensures.takes.1 at_keyword in
    c.in_err-a.ensures v.a _ fits.0 at_a)

pub returns-in_err-b : goal.returns-in_err-b
returns-in_err-b c = rw c.from_residual-in_err-b.ensures (λ v fits e.
    let at_keyword = c.of-words.ensures ∙ words_in-ends_line c.args.size c.requires v.a v.b fits.0 fits.1 _ e in
    let at_a = rest_same c.in_ok-keyword.ensures.takes.1 at_keyword in
    let at_b = rest_same c.in_ok-a.ensures.1 at_a in
    c.in_err-b.ensures v.b _ fits.1 at_b)

pub returns-in_err-end : goal.returns-in_err-end
returns-in_err-end c = rw c.from_residual-in_err-end.ensures (λ v fits e.
    let at_keyword = c.of-words.ensures ∙ words_in-ends_line c.args.size c.requires v.a v.b fits.0 fits.1 _ e in
    let at_a = rest_same c.in_ok-keyword.ensures.takes.1 at_keyword in
    let at_b = rest_same c.in_ok-a.ensures.1 at_a in
    let at_end = rest_same c.in_ok-b.ensures.1 at_b in
    c.in_err-end.ensures at_end)

pub returns : goal.returns
returns c = (
  (c.in_ok-a.ensures.0, c.in_ok-b.ensures.0),
  line_from_words c.of-words.ensures
      (word_then c.in_ok-keyword.ensures.takes.1 (word_then c.in_ok-a.ensures.1 (word_then c.in_ok-b.ensures.1 c.in_ok-end.ensures))),
)
