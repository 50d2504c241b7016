-- An earlier heading with some position, mover and winner is the heading of these.
use Rattle.std.proofs.Common.{◌≡◌, ℕ, List, refl, sym, ap, ◌∙◌, subst, Option, None, Some}
use Rattle.std.specs.Prelude.{slice_get, IsSomeAnd}
use Rattle.hx_board.specs.declared.colours.Colour.{Colour}
use Rattle.hx_board.specs.Positions.{Board}
use Rattle.hx_tree.specs.declared.nodes.Heading.{Heading}
use Rattle.hx_tree.specs.Headings.{Leads, IsHeading, heading_of}

module _ (board : Board) (mover winner : Colour) where
  pub same_heading : (heading : Heading) → IsHeading board mover winner heading → heading ≡ heading_of board mover winner
  same_heading heading is = ap (λ (b : Board). heading_of b heading.to_move heading.winner) is.same_position
      ∙ ap (λ (c : Colour). heading_of board c heading.winner) is.same_mover
      ∙ ap (λ (c : Colour). heading_of board mover c) is.same_winner

  pub leads-heading : (before : List Heading) (child : ℕ) → Leads before child board mover winner
      → IsSomeAnd (slice_get before child) (IsHeading board mover winner)
  leads-heading before child leads =
      let P : Option Heading → Type 0 = λ found. IsSomeAnd found (IsHeading board mover winner) in
      subst P (sym leads) (record { same_position = refl; same_mover = refl; same_winner = refl })

  found-leads : (before : List Heading) (child : ℕ) (found : Option Heading) → slice_get before child ≡ found
      → IsSomeAnd found (IsHeading board mover winner) → Leads before child board mover winner
  found-leads before child None there is = absurd is
  found-leads before child (Some heading) there is = there ∙ ap Some (same_heading heading is)

  pub heading-leads : (before : List Heading) (child : ℕ) → IsSomeAnd (slice_get before child) (IsHeading board mover winner)
      → Leads before child board mover winner
  heading-leads before child is = found-leads before child (slice_get before child) refl is
