-- What answers a move of the opponent's at a node with answers: words for the functions inside the crate alone.
use Rattle.std.specs.Prelude.{◌≡◌, ℕ, false, List, Contains, slice_get}
use Rattle.std.specs.declared.option.Option.TheVariants.{Some}
use Rattle.hx_board.specs.Sets.{has}
use Rattle.hx_link.specs.declared.links.Link.{Link}
use Rattle.hx_tree.specs.declared.nodes.Line.{Line}
use Rattle.hx_tree.specs.declared.nodes.Line.TheVariants.{Child}

-- a line answers the cell by this child
abbrev pub AnswersBy : List Line → ℕ → ℕ → Type 0
AnswersBy lines cell child = Contains lines (Child cell child)

-- a threat at this place, whose carrier lacks the cell
pub record IsThreatWithout (links : List Link) (threats : List ℕ) (cell place : ℕ) : Type 0 where
  pub is_threat : Contains threats place
  pub link : Link
  pub there : slice_get links place ≡ Some link
  pub outside : has link.carrier cell ≡ false
