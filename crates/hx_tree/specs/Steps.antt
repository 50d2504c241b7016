-- The links of a node's steps, and the threats among them.
use Rattle.std.specs.Prelude.{◌≡◌, ◌-◌, ◌≤◌, ◌⊎◌, true, false, ℕ}
use Rattle.std.specs.Prelude.{List, [], length, Contains, slice_get, IfSome, IsSomeAnd}
use Rattle.std.specs.declared.option.Option.TheVariants.{Some}
use Rattle.hx_board.specs.declared.colours.Colour.{Colour}
use Rattle.hx_board.specs.Sets.{has}
use Rattle.hx_board.specs.Positions.{Board}
use Rattle.hx_link.specs.declared.links.Kind.TheVariants.{Full}
use Rattle.hx_link.specs.declared.links.Link.{Link}
use Rattle.hx_link.specs.declared.steps.Step.{Step}
use Rattle.hx_link.specs.Steps.{AreRightSteps, IsChainLink}
use Rattle.hx_tree.specs.declared.nodes.Heading.{Heading}
use Rattle.hx_tree.specs.declared.steps.TheConstants.{MOST_STEPS, MOST_THREATS}

-- not too many steps, which give these links one after the other
pub record GiveLinks (board : Board) (player : Colour) (steps : List Step) (links : List Link) : Type 0 where
  pub few : length steps ≤ MOST_STEPS
  pub right : AreRightSteps board player [] steps links

-- the steps give links, and the last of these joins the winner's two sides, and is Full, or the winner is to move
pub record AreRightLinks (heading : Heading) (steps : List Step) : Type 0 where
  pub links : List Link
  pub steps_right : GiveLinks heading.position heading.winner steps links
  pub last : Link
  pub is_last : slice_get links (length links - 1) ≡ Some last
  pub joins : IsChainLink last
  pub in_time : (last.kind ≡ Full) ⊎ (heading.to_move ≡ heading.winner)

-- not too many threats, each the place of a link that joins the two sides
pub record AreThreats (links : List Link) (threats : List ℕ) : Type 0 where
  pub few : length threats ≤ MOST_THREATS
  pub each : (k : ℕ) → IfSome (slice_get threats k) (λ place. IsSomeAnd (slice_get links place) IsChainLink)

-- ---- for functions and proofs

-- what `AreRightLinks` asks of the last link
pub record ShowWin (heading : Heading) (links : List Link) : Type 0 where
  pub last : Link
  pub is_last : slice_get links (length links - 1) ≡ Some last
  pub joins : IsChainLink last
  pub in_time : (last.kind ≡ Full) ⊎ (heading.to_move ≡ heading.winner)

-- what `AreThreats` asks of each threat
abbrev pub IsThreat : List Link → ℕ → Type 0
IsThreat links place = IsSomeAnd (slice_get links place) IsChainLink

-- what `IsToAnswer` asks of a cell
abbrev pub IsInEachThreat : List Link → List ℕ → ℕ → Type 0
IsInEachThreat links threats cell =
    (k : ℕ) → IfSome (slice_get threats k)
    (λ place. IsSomeAnd (slice_get links place) (λ link. has link.carrier cell ≡ true))

-- the carrier of some threat does not have the cell
pub record IsOutsideThreat (links : List Link) (threats : List ℕ) (cell : ℕ) : Type 0 where
  pub place : ℕ
  pub is_threat : Contains threats place
  pub link : Link
  pub there : slice_get links place ≡ Some link
  pub outside : has link.carrier cell ≡ false

-- the place of a link on this carrier that joins the two sides
pub record IsThreatOn (links : List Link) (place carrier : ℕ) : Type 0 where
  pub link : Link
  pub there : slice_get links place ≡ Some link
  pub joins : IsChainLink link
  pub carrier_is : link.carrier ≡ carrier
