-- The first line of a node. Its words are of high bytes, so it gives back the words that it was spelled from.
use Rattle.std.proofs.Common.{◌≡◌, ℕ, ◌≤◌, List, ◌∷◌, refl, ap, ◌∙◌, arith}
use Rattle.std.specs.Prelude.{codes}
use Rattle.hx_board.specs.Cells.{IsExtent, OnBoard}
use Rattle.hx_board.proofs.PositionLaws.{board-small}
use Rattle.hx_tree.specs.declared.nodes.Heading.{Heading}
use Rattle.hx_text.specs.declared.heads.Opening.{Opening}
use Rattle.hx_text.specs.declared.heads.Opening.TheVariants.{Chain, Links, Move, All, Fill, Turned}
use Rattle.hx_text.specs.declared.heads.Head.{Head}
use Rattle.hx_text.specs.declared.versions.Preamble.{Preamble}
use Rattle.hx_lex.specs.Words.{mask_word, colour_word, words_in, IsSet}
use Rattle.hx_text.specs.TreeTexts.{opening_words, OpeningFits, head_words, head_line, HeadingFits, HeadFits}
use Rattle.hx_lex.proofs.Spacing.{IsLine, words_in-spaced}
use Rattle.hx_lex.proofs.HighBytes.{AllHigh, is_high, IsHigh-test, IsHigh-decimal, IsHigh-hex, IsHigh-colour_word, IsHigh-cell_word}
use Rattle.hx_lex.proofs.HighBytes.{IsLine-high}

AllHigh-opening_words : (preamble : Preamble) (opening : Opening) → preamble.size.rows ≤ 11 → OpeningFits preamble opening
    → AllHigh (opening_words opening)
unfolding is_high
AllHigh-opening_words preamble Chain few fits = (IsHigh-test (codes "chain") refl, tt)
AllHigh-opening_words preamble (Links steps) few fits = (IsHigh-test (codes "links") refl, (IsHigh-decimal steps (omega (arith, fits)), tt))
AllHigh-opening_words preamble (Move cell child) few fits =
    let on : OnBoard preamble.size cell = fits.0 in
    (IsHigh-test (codes "move") refl, (IsHigh-cell_word cell (omega (arith, on.row)), (IsHigh-decimal child fits.1, tt)))
AllHigh-opening_words preamble (All steps threats lines) few fits = (
  IsHigh-test (codes "all") refl,
  (
    IsHigh-decimal steps (omega (arith, fits.0)),
    (IsHigh-decimal threats (omega (arith, fits.1)), (IsHigh-decimal lines (omega (arith, fits.2)), tt)),
  ),
)
AllHigh-opening_words preamble (Fill fills child) few fits =
    (IsHigh-test (codes "fill") refl, (IsHigh-decimal fills (omega (arith, fits.0)), (IsHigh-decimal child fits.1, tt)))
AllHigh-opening_words preamble (Turned child) few fits = (IsHigh-test (codes "turned") refl, (IsHigh-decimal child fits.1, tt))

pub AllHigh-head_words : (preamble : Preamble) (head : Head) → preamble.size.rows ≤ 11 → OpeningFits preamble head.opening
    → AllHigh (head_words head)
unfolding is_high
AllHigh-head_words preamble head few fits = (
  IsHigh-test (codes "node") refl,
  (
    IsHigh-hex 32 head.heading.position.black,
    (
      IsHigh-hex 32 head.heading.position.white,
      (
        IsHigh-colour_word head.heading.to_move,
        (IsHigh-colour_word head.heading.winner, AllHigh-opening_words preamble head.opening few fits),
      ),
    ),
  ),
)

pub IsLine-head_words : (preamble : Preamble) (head : Head) → preamble.size.rows ≤ 11 → OpeningFits preamble head.opening
    → IsLine (head_words head)
IsLine-head_words preamble head few fits =
    IsLine-high (codes "node")
    (mask_word head.heading.position.black ∷ mask_word head.heading.position.white ∷ colour_word head.heading.to_move ∷
    colour_word head.heading.winner ∷ opening_words head.opening)
    (AllHigh-head_words preamble head few fits)

pub words_in-head_line : (preamble : Preamble) (line : List ℕ) (head : Head) → IsExtent preamble.size.rows preamble.size.cols
    → HeadFits preamble head
    → line ≡ head_line head → words_in line ≡ head_words head
words_in-head_line preamble line head extent fits e = ap words_in e
    ∙ words_in-spaced (head_words head) (IsLine-head_words preamble head extent.1 fits.opening)

-- the sets of a heading's position are below 2 ^ 128
pub black_small : {preamble : Preamble} (heading : Heading) → HeadingFits preamble heading → IsSet heading.position.black
black_small heading fits = (board-small heading.position fits.board).0

pub white_small : {preamble : Preamble} (heading : Heading) → HeadingFits preamble heading → IsSet heading.position.white
white_small heading fits = (board-small heading.position fits.board).1
