use Rattle.std.proofs.Common.{◌∙◌}
use Rattle.hx_lex.proofs.Cursors.{first_same, rest_same, word_then}
use Rattle.hx_lex.proofs.Spacing.{line_from_words}
use Rattle.hx_text.proofs.HeadLines.{words_in-head_line, black_small, white_small}
use Rattle.hx_parse.proofs.HeadReads.{IsPosition-masks, head_reads}
use Rattle.hx_parse.proofs.head_lines.read_head.Goals as goal

pub returns-in_err-keyword : goal.returns-in_err-keyword
returns-in_err-keyword c = rw c.from_residual.ensures (λ v fits e.
    let at_keyword = c.of-words.ensures ∙ words_in-head_line c.args.preamble.now _ v c.rows-rows.ensures.valid fits e in
    c.in_err-keyword.ensures.takes tt _ tt at_keyword)

pub returns-in_err-black : goal.returns-in_err-black
returns-in_err-black c = rw c.from_residual-in_err-black.ensures (λ v fits e.
    let at_keyword = c.of-words.ensures ∙ words_in-head_line c.args.preamble.now _ v c.rows-rows.ensures.valid fits e in
    let at_black = rest_same c.in_ok-keyword.ensures.takes.1 at_keyword in
    c.in_err-black.ensures v.heading.position.black _ (black_small v.heading fits.heading) at_black)

pub returns-in_err-white : goal.returns-in_err-white
returns-in_err-white c = rw c.from_residual-in_err-white.ensures (λ v fits e.
    let at_keyword = c.of-words.ensures ∙ words_in-head_line c.args.preamble.now _ v c.rows-rows.ensures.valid fits e in
    let at_black = rest_same c.in_ok-keyword.ensures.takes.1 at_keyword in
    let at_white = rest_same c.in_ok-black.ensures.1 at_black in
    c.in_err-white.ensures v.heading.position.white _ (white_small v.heading fits.heading) at_white)

pub returns-in_err-to_move : goal.returns-in_err-to_move
returns-in_err-to_move c = rw c.from_residual-in_err-to_move.ensures (λ v fits e.
    let at_keyword = c.of-words.ensures ∙ words_in-head_line c.args.preamble.now _ v c.rows-rows.ensures.valid fits e in
    let at_black = rest_same c.in_ok-keyword.ensures.takes.1 at_keyword in
    let at_white = rest_same c.in_ok-black.ensures.1 at_black in
    let at_to_move = rest_same c.in_ok-white.ensures.1 at_white in
    c.in_err-to_move.ensures v.heading.to_move _ tt at_to_move)

pub returns-in_err-winner : goal.returns-in_err-winner
returns-in_err-winner c = rw c.from_residual-in_err-winner.ensures (λ v fits e.
    let at_keyword = c.of-words.ensures ∙ words_in-head_line c.args.preamble.now _ v c.rows-rows.ensures.valid fits e in
    let at_black = rest_same c.in_ok-keyword.ensures.takes.1 at_keyword in
    let at_white = rest_same c.in_ok-black.ensures.1 at_black in
    let at_to_move = rest_same c.in_ok-white.ensures.1 at_white in
    let at_winner = rest_same c.in_ok-to_move.ensures.1 at_to_move in
    c.in_err-winner.ensures v.heading.winner _ tt at_winner)

pub returns-in_err-opening : goal.returns-in_err-opening
returns-in_err-opening c = rw c.from_residual-in_err-opening.ensures (λ v fits e.
    let at_keyword = c.of-words.ensures ∙ words_in-head_line c.args.preamble.now _ v c.rows-rows.ensures.valid fits e in
    let at_black = rest_same c.in_ok-keyword.ensures.takes.1 at_keyword in
    let at_white = rest_same c.in_ok-black.ensures.1 at_black in
    let at_to_move = rest_same c.in_ok-white.ensures.1 at_white in
    let at_winner = rest_same c.in_ok-to_move.ensures.1 at_to_move in
    let at_opening = rest_same c.in_ok-winner.ensures.1 at_winner in
    c.in_err-opening.ensures v.opening fits.opening at_opening)

pub returns-in_err-position : goal.returns-in_err-position
returns-in_err-position c = rw c.from_residual-in_err-position.ensures (λ v fits e.
    let at_keyword = c.of-words.ensures ∙ words_in-head_line c.args.preamble.now _ v c.rows-rows.ensures.valid fits e in
    let at_black = rest_same c.in_ok-keyword.ensures.takes.1 at_keyword in
    let at_white = rest_same c.in_ok-black.ensures.1 at_black in
    c.in_err-position.ensures (IsPosition-masks v.heading fits.heading c.in_ok-black.ensures.0 c.in_ok-white.ensures.0
    (first_same c.in_ok-black.ensures.1 at_black) (first_same c.in_ok-white.ensures.1 at_white)))

pub returns : goal.returns
returns c = head_reads c.args.preamble.now _ _ _ _ _ _ _ c.rows-rows.ensures.valid c.in_ok-opening.ensures.0 c.in_ok-position.ensures
    (line_from_words c.of-words.ensures
    (word_then c.in_ok-keyword.ensures.takes.1
    (word_then c.in_ok-black.ensures.1
    (word_then c.in_ok-white.ensures.1
    (word_then c.in_ok-to_move.ensures.1 (word_then c.in_ok-winner.ensures.1 (c.in_ok-opening.ensures.1)))))))
