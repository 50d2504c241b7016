-- The link that right steps end in, and steps that show who wins.
use Rattle.std.specs.Prelude.{◌≡◌, ℕ, true, List, [], length, slice_get, ◌-◌}
use Rattle.std.specs.declared.option.Option.TheVariants.{Some}
use Rattle.hx_board.specs.declared.colours.Colour.{Colour}
use Rattle.hx_board.specs.Sets.{has}
use Rattle.hx_board.specs.Positions.{Board, IsEmpty}
use Rattle.hx_link.specs.declared.links.Kind.{Kind}
use Rattle.hx_link.specs.declared.links.Link.{Link}
use Rattle.hx_link.specs.declared.steps.Step.{Step}
use Rattle.hx_link.specs.Steps.{AreRightSteps, IsChainLink}

-- right steps, of which the last gives this link
pub record EndInLink (board : Board) (player : Colour) (steps : List Step) (link : Link) : Type 0 where
  pub links : List Link
  pub right : AreRightSteps board player [] steps links
  pub is_last : slice_get links (length links - 1) ≡ Some link

-- each of these cells is empty
abbrev pub AreEmpty : Board → ℕ → Type 0
AreEmpty board cells = (cell : ℕ) → has cells cell ≡ true → IsEmpty board cell

-- right steps, of which the last gives a link of this kind between the player's two sides
pub record EndInChainLink (board : Board) (player : Colour) (kind : Kind) (steps : List Step) : Type 0 where
  pub links : List Link
  pub right : AreRightSteps board player [] steps links
  pub link : Link
  pub is_last : slice_get links (length links - 1) ≡ Some link
  pub joins : IsChainLink link
  pub same_kind : link.kind ≡ kind

-- and this whatever the kind is
abbrev pub ShowChain : Board → Colour → List Step → Type 0
ShowChain board player steps = (kind : Kind) × EndInChainLink board player kind steps
