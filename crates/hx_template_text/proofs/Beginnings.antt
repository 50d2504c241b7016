-- First lines of a template's text that fit begin a text, whatever is to follow: the two sides may be the ends, and the
-- carrier may have no cell.
use Rattle.std.proofs.Common.{◌≡◌, ◌≢◌, ℕ, List, ◌++◌, sym, ◌∙◌}
use Rattle.std.proofs.lemmas.Bool.{false≢true}
use Rattle.hx_board.specs.declared.colours.Colour.{Colour}
use Rattle.hx_board.specs.declared.vertices.Vertex.{Vertex}
use Rattle.hx_board.specs.declared.vertices.Vertex.TheVariants.{First, Last}
use Rattle.hx_board.specs.Positions.{Board, IsBoard}
use Rattle.hx_board.proofs.SetLaws.{has-empty}
use Rattle.hx_link.specs.declared.links.Kind.{Kind}
use Rattle.hx_text.specs.Grammars.{Begins}
use Rattle.hx_template_text.specs.declared.templates.Template.{Template}
use Rattle.hx_template_text.specs.Templates.{template_lines}
use Rattle.hx_template_text.specs.Templates.{IsCarrierOf, IsTemplate, AreTemplateLines}

-- the two sides with no cell
abbrev pub side_claim : Board → Colour → Kind → Template
side_claim board owner kind = record { position = board; owner = owner; kind = kind; a = First; b = Last; carrier = 0 }

pub empty_carrier : (board : Board) (a b : Vertex) → IsCarrierOf board a b 0
empty_carrier board a b = record {
  free = λ cell inside. absurd (false≢true (sym (has-empty cell) ∙ inside));
  a_outside = λ cell e. has-empty cell;
  b_outside = λ cell e. has-empty cell;
}

sides_differ : First ≢ Last
sides_differ e = cc

side_is : (board : Board) (owner : Colour) (kind : Kind) → IsBoard board → IsTemplate (side_claim board owner kind)
side_is board owner kind is = record {
  board = is;
  ends = record { differ = sides_differ; a_end = tt; b_end = tt };
  carrier = empty_carrier board First Last;
}

pub begins_by : (before rest : List (List ℕ)) (claim : Template) → IsTemplate claim → before ++ rest ≡ template_lines claim
    → Begins AreTemplateLines before
begins_by before rest claim is same = (rest, record { claim = claim; is_template = is; same = same })

pub begins_by_sides : (before rest : List (List ℕ)) (board : Board) (owner : Colour) (kind : Kind) → IsBoard board
    → before ++ rest ≡ template_lines (side_claim board owner kind) → Begins AreTemplateLines before
begins_by_sides before rest board owner kind is same =
    begins_by before rest (side_claim board owner kind) (side_is board owner kind is) same
