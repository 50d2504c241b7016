-- The lines of a template's text: their words are of high bytes, so each line gives back what it was spelled from, and
-- has no LF in it.
use Rattle.std.proofs.Common.{◌≡◌, ℕ, List, [], ◌∷◌, get_or, refl, ap, ◌∙◌, arith}
use Rattle.std.specs.Prelude.{codes}
use Rattle.hx_board.specs.declared.colours.Colour.{Colour}
use Rattle.hx_board.specs.declared.colours.Colour.TheVariants.{Black, White}
use Rattle.hx_board.specs.declared.vertices.Vertex.{Vertex}
use Rattle.hx_board.specs.Cells.{Extent, IsExtent}
use Rattle.hx_board.specs.Graph.{IsVertex}
use Rattle.hx_board.specs.Positions.{Board, IsBoard}
use Rattle.hx_link.specs.declared.links.Kind.{Kind}
use Rattle.hx_link.specs.declared.links.Kind.TheVariants.{Full, Semi}
use Rattle.hx_link.proofs.LinkLaws.{end-vertex}
use Rattle.hx_template_text.specs.declared.templates.Template.{Template}
use Rattle.hx_lex.specs.Words.{mask_word, colour_word, words_in, IsSet, vertex_word}
use Rattle.hx_text.specs.PositionTexts.{size_line, stones_line}
use Rattle.hx_template_text.specs.Templates.{owner_line, kind_word, kind_line, ends_line, carrier_line, board_lines}
use Rattle.hx_template_text.specs.Templates.{template_lines, IsTemplate, AreTemplateLines}
use Rattle.hx_lex.proofs.Spacing.{IsLine, words_in-spaced, spaced_injective}
use Rattle.hx_lex.proofs.HighBytes.{AllHigh, IsHigh, is_high, IsHigh-test, IsHigh-hex, IsHigh-colour_word, IsLine-high, Lacks-spaced}
use Rattle.hx_lex.proofs.KeyedLines.{Lacks-keyed, second_word_same, keyed_colour_injective, keyed_mask_injective}
use Rattle.hx_text.proofs.LineWords.{size_words, AllHigh-size_words}
use Rattle.hx_text.proofs.StepWords.{IsHigh-vertex_word}
use Rattle.hx_text.proofs.PositionLines.{Lacks-stones_line}
use Rattle.hx_text.proofs.WholePositions.{lines_tell_board}
use Rattle.hx_lex.proofs.Injective.{vertex_injective}
use Rattle.hx_text.proofs.Cuts.{AllLack}

-- ---- the owner

pub owner_injective : (a b : Colour) → owner_line a ≡ owner_line b → a ≡ b
unfolding is_high
owner_injective a b e = keyed_colour_injective (codes "owner") a b (IsHigh-test (codes "owner") refl) e

-- ---- the kind

IsHigh-kind_word : (kind : Kind) → IsHigh (kind_word kind)
unfolding is_high
IsHigh-kind_word Full = IsHigh-test (codes "full") refl
IsHigh-kind_word Semi = IsHigh-test (codes "semi") refl

kind_word_injective : (a b : Kind) → kind_word a ≡ kind_word b → a ≡ b
kind_word_injective Full Full e = refl
kind_word_injective Semi Semi e = refl
kind_word_injective Full Semi e = let first : 102 ≡ 115 = ap (λ (w : List ℕ). get_or w 0 0) e in absurd (omega (arith, first))
kind_word_injective Semi Full e = let first : 115 ≡ 102 = ap (λ (w : List ℕ). get_or w 0 0) e in absurd (omega (arith, first))

pub kind_injective : (a b : Kind) → kind_line a ≡ kind_line b → a ≡ b
unfolding is_high
kind_injective a b e =
    kind_word_injective a b
    (second_word_same (codes "kind") (kind_word a) (kind_word b) (IsHigh-test (codes "kind") refl) (IsHigh-kind_word a) (IsHigh-kind_word b) e)

-- ---- the ends

abbrev ends_words : Vertex → Vertex → List (List ℕ)
ends_words a b = codes "ends" ∷ vertex_word a ∷ vertex_word b ∷ []

module _ (size : Extent) (extent : IsExtent size.rows size.cols) (a b : Vertex) (on_a : IsVertex size a) (on_b : IsVertex size b) where
  AllHigh-ends_words : AllHigh (ends_words a b)
  unfolding is_high
  AllHigh-ends_words =
      (IsHigh-test (codes "ends") refl, (IsHigh-vertex_word size a extent.1 on_a, (IsHigh-vertex_word size b extent.1 on_b, tt)))

  IsLine-ends_words : IsLine (ends_words a b)
  IsLine-ends_words = IsLine-high (codes "ends") (vertex_word a ∷ vertex_word b ∷ []) AllHigh-ends_words

  pub words_in-ends_line : (line : List ℕ) → line ≡ ends_line a b → words_in line ≡ ends_words a b
  words_in-ends_line line e = ap words_in e ∙ words_in-spaced (ends_words a b) IsLine-ends_words

pub ends_injective : (size : Extent) → IsExtent size.rows size.cols → (a b x y : Vertex) → IsVertex size a → IsVertex size b
    → IsVertex size x → IsVertex size y → ends_line a b ≡ ends_line x y → (a ≡ x) × (b ≡ y)
ends_injective size extent a b x y on_a on_b on_x on_y e =
    let words : ends_words a b ≡ ends_words x y =
    spaced_injective (ends_words a b) (ends_words x y) (IsLine-ends_words size extent a b on_a on_b)
    (IsLine-ends_words size extent x y on_x on_y) e in
    let first : vertex_word a ≡ vertex_word x = cc in
    let second : vertex_word b ≡ vertex_word y = cc in
    (vertex_injective size a x extent.1 on_a on_x first, vertex_injective size b y extent.1 on_b on_y second)

-- ---- the carrier

pub carrier_injective : (a b : ℕ) → IsSet a → IsSet b → carrier_line a ≡ carrier_line b → a ≡ b
unfolding is_high
carrier_injective a b small few e = keyed_mask_injective (codes "carrier") a b (IsHigh-test (codes "carrier") refl) small few e

-- ---- the lines of the board

pub board_injective : (a b : Board) → IsBoard a → IsBoard b → board_lines a ≡ board_lines b → a ≡ b
board_injective a b is_a is_b e =
    let sizes : size_line a.size ≡ size_line b.size = cc in
    let blacks : stones_line Black a.black ≡ stones_line Black b.black = cc in
    let whites : stones_line White a.white ≡ stones_line White b.white = cc in
    lines_tell_board a b is_a is_b sizes blacks whites

-- ---- no line has an LF in it

pub AllLack-template_lines : (claim : Template) → IsTemplate claim → AllLack (template_lines claim)
unfolding is_high
AllLack-template_lines claim is =
    let size = claim.position.size in (
      Lacks-keyed (codes "hextemplate") (codes "1") (IsHigh-test (codes "hextemplate") refl) (IsHigh-test (codes "1") refl),
      (
        Lacks-spaced (size_words size.rows size.cols)
            (AllHigh-size_words size.rows size.cols (omega (arith, is.board.0)) (omega (arith, is.board.0))),
        (
          Lacks-stones_line Black claim.position.black,
          (
            Lacks-stones_line White claim.position.white,
            (
              Lacks-keyed (codes "owner") (colour_word claim.owner) (IsHigh-test (codes "owner") refl) (IsHigh-colour_word claim.owner),
              (
                Lacks-keyed (codes "kind") (kind_word claim.kind) (IsHigh-test (codes "kind") refl) (IsHigh-kind_word claim.kind),
                (
                  Lacks-spaced (ends_words claim.a claim.b)
                      (AllHigh-ends_words size is.board.0 claim.a claim.b (end-vertex claim.position claim.owner claim.a is.ends.a_end)
                      (end-vertex claim.position claim.owner claim.b is.ends.b_end)),
                  (Lacks-keyed (codes "carrier") (mask_word claim.carrier) (IsHigh-test (codes "carrier") refl) (IsHigh-hex 32 claim.carrier), tt),
                ),
              ),
            ),
          ),
        ),
      ),
    )

pub AllLack-template : (lines : List (List ℕ)) → AreTemplateLines lines → AllLack lines
AllLack-template lines are = rw are.same (AllLack-template_lines are.claim are.is_template)
