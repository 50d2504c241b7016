-- What the words of a node's first line spell is read from them, since the two masks of the line are those of its
-- position.
use Rattle.std.proofs.Common.{◌≡◌, ℕ, List, ◌∷◌, refl}
use Rattle.std.specs.Prelude.{codes}
use Rattle.hx_board.specs.declared.colours.Colour.{Colour}
use Rattle.hx_board.specs.Cells.{IsExtent}
use Rattle.hx_board.specs.Positions.{Board, IsPosition}
use Rattle.hx_tree.specs.declared.nodes.Heading.{Heading}
use Rattle.hx_text.specs.declared.heads.Opening.{Opening}
use Rattle.hx_text.specs.declared.heads.Head.{Head}
use Rattle.hx_text.specs.declared.versions.Preamble.{Preamble}
use Rattle.hx_lex.specs.Words.{mask_word, colour_word, spaced, IsSet}
use Rattle.hx_text.specs.TreeTexts.{opening_words, OpeningFits, head_line, HeadingFits, HeadFits}
use Rattle.hx_lex.proofs.Masks.{mask_injective}
use Rattle.hx_text.proofs.HeadLines.{black_small, white_small}

-- the masks in a node's first line are a position
pub IsPosition-masks : {preamble : Preamble} {black white : ℕ} (heading : Heading) → HeadingFits preamble heading
    → IsSet black → IsSet white
    → mask_word black ≡ mask_word heading.position.black → mask_word white ≡ mask_word heading.position.white
    → IsPosition preamble.size black white
IsPosition-masks {preamble} {black} {white} heading fits small_black small_white words_black words_white =
    let same_black : black ≡ heading.position.black =
    mask_injective black heading.position.black small_black (black_small heading fits) words_black in
    let same_white : white ≡ heading.position.white =
    mask_injective white heading.position.white small_white (white_small heading fits) words_white in
    let same_size : heading.position.size ≡ preamble.size = fits.size_is in
    rw (same_black, same_white, ← same_size) fits.board.1

abbrev head_from : Board → Colour → Colour → Opening → Head
head_from position to_move winner opening =
    record { heading = record { position = position; to_move = to_move; winner = winner }; opening = opening }

pub head_reads : (preamble : Preamble) (line : List ℕ) (black white : ℕ) (to_move winner : Colour) (opening : Opening) (position : Board)
    → IsExtent preamble.size.rows preamble.size.cols → OpeningFits preamble opening
    → IsPosition preamble.size black white × (position ≡ record { size = preamble.size; black = black; white = white })
    → line ≡ spaced (codes "node" ∷ mask_word black ∷ mask_word white ∷ colour_word to_move ∷ colour_word winner ∷ opening_words opening)
    → HeadFits preamble (head_from position to_move winner opening) × (line ≡ head_line (head_from position to_move winner opening))
head_reads preamble line black white to_move winner opening position extent fits made e =
    rw made.1 (record { heading = record { size_is = refl; board = (extent, made.0) }; opening = fits }, e)
