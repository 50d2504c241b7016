-- The text of a template: a claim that a player joins two vertices within a carrier.
use Rattle.std.specs.Prelude.{◌≡◌, ◌≢◌, ℕ, true, false, List, [], ◌∷◌, ◌++◌, codes}
use Rattle.hx_board.specs.declared.colours.Colour.{Colour}
use Rattle.hx_board.specs.declared.colours.Colour.TheVariants.{Black, White}
use Rattle.hx_board.specs.declared.vertices.Vertex.{Vertex}
use Rattle.hx_board.specs.declared.vertices.Vertex.TheVariants.{Of}
use Rattle.hx_board.specs.Sets.{has}
use Rattle.hx_board.specs.Positions.{Board, IsBoard, IsEmpty}
use Rattle.hx_link.specs.declared.links.Kind.{Kind}
use Rattle.hx_link.specs.declared.links.Kind.TheVariants.{Full, Semi}
use Rattle.hx_link.specs.Steps.{IsEnd}
use Rattle.hx_template_text.specs.declared.templates.Template.{Template}
use Rattle.hx_lex.specs.Words.{spaced, mask_word, colour_word, vertex_word}
use Rattle.hx_text.specs.Grammars.{text_of}
use Rattle.hx_text.specs.PositionTexts.{size_line, stones_line}

abbrev pub template_title : List ℕ
template_title = spaced (codes "hextemplate" ∷ codes "1" ∷ [])

abbrev pub owner_line : Colour → List ℕ
owner_line owner = spaced (codes "owner" ∷ colour_word owner ∷ [])

abbrev pub kind_word : Kind → List ℕ
kind_word Full = codes "full"
kind_word Semi = codes "semi"

abbrev pub kind_line : Kind → List ℕ
kind_line kind = spaced (codes "kind" ∷ kind_word kind ∷ [])

abbrev pub ends_line : Vertex → Vertex → List ℕ
ends_line a b = spaced (codes "ends" ∷ vertex_word a ∷ vertex_word b ∷ [])

abbrev pub carrier_line : ℕ → List ℕ
carrier_line carrier = spaced (codes "carrier" ∷ mask_word carrier ∷ [])

-- the title, and the lines of the board
abbrev pub board_lines : Board → List (List ℕ)
board_lines board =
    template_title ∷ size_line board.size ∷ stones_line Black board.black ∷ stones_line White board.white ∷ []

abbrev pub template_lines : Template → List (List ℕ)
template_lines claim =
    board_lines claim.position ++ owner_line claim.owner ∷ kind_line claim.kind ∷ ends_line claim.a claim.b
    ∷ carrier_line claim.carrier ∷ []

abbrev pub template_text : Template → List ℕ
template_text claim = text_of (template_lines claim)

-- two vertices that differ, none of them a stone of the opponent
pub record AreEnds (board : Board) (owner : Colour) (a b : Vertex) : Type 0 where
  pub differ : a ≢ b
  pub a_end : IsEnd board owner a
  pub b_end : IsEnd board owner b

-- empty cells that are no ends
pub record IsCarrierOf (board : Board) (a b : Vertex) (carrier : ℕ) : Type 0 where
  pub free : (cell : ℕ) → has carrier cell ≡ true → IsEmpty board cell
  pub a_outside : (cell : ℕ) → a ≡ Of cell → has carrier cell ≡ false
  pub b_outside : (cell : ℕ) → b ≡ Of cell → has carrier cell ≡ false

-- a claim that can be made: of a board, two ends, and cells between them
pub record IsTemplate (claim : Template) : Type 0 where
  pub board : IsBoard claim.position
  pub ends : AreEnds claim.position claim.owner claim.a claim.b
  pub carrier : IsCarrierOf claim.position claim.a claim.b claim.carrier

-- the lines of some template's text
pub record AreTemplateLines (lines : List (List ℕ)) : Type 0 where
  pub claim : Template
  pub is_template : IsTemplate claim
  pub same : lines ≡ template_lines claim
