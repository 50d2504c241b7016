-- The Or rule is sound. Where the player with the move secures two ends in several carriers, of which no cell is in
-- all, a move of the opponent's leaves a carrier in which the player with the move secures them still.
use Rattle.std.proofs.Common.{◌≡◌, ℕ, false, refl, sym, ◌∙◌}
use Rattle.std.proofs.lemmas.Bool.{false≢true}
use Rattle.hx_board.specs.declared.colours.Colour.{Colour}
use Rattle.hx_board.specs.declared.vertices.Vertex.{Vertex}
use Rattle.hx_board.specs.Sets.{has, IsSubset}
use Rattle.hx_board.specs.Colours.{other_of}
use Rattle.hx_board.specs.Positions.{Board, put}
use Rattle.hx_law.specs.Play.{By_goal, By_move, By_answers}
use Rattle.hx_board.proofs.ColourLaws.{other-differs}
use Rattle.hx_board.proofs.KeptStones.{joined_stays}
use Rattle.hx_proof.specs.Local.{IsJoined, Secures}
use Rattle.hx_proof.proofs.LocalGame.{in_reach_in_more_room, in_reach_after_stone_outside}

module _ (player : Colour) (whole : ℕ) (from to : Vertex) (IsPart : ℕ → Type 0) (within : (part : ℕ) → IsPart part → IsSubset part whole)
    (board : Board)
    (secured : (part : ℕ) → IsPart part → Secures player part from to board player)
    (none_in_all : (n : ℕ) → (part : ℕ) × (IsPart part × (has part n ≡ false))) where
  abbrev other : Colour
  other = other_of player

  respond : (cell : ℕ) → Secures player whole from to (put board other cell) player
  respond cell =
      let w : (part : ℕ) × (IsPart part × (has part cell ≡ false)) = none_in_all cell in
      in_reach_in_more_room player (IsJoined player from to) (joined_stays player from to) (has w.0) (has whole) (within w.0 w.1.0)
      (put board other cell) player
      (in_reach_after_stone_outside player (IsJoined player from to) (joined_stays player from to) (has w.0) board other cell
      (λ h. false≢true (sym w.1.1 ∙ h)) player (secured w.0 w.1.0))

  -- the carriers have a free cell for the opponent to move to, or the ends are joined
  start : (part : ℕ) → IsPart part → (mover : Colour) → mover ≡ player → Secures player part from to board mover
      → Secures player whole from to board other
  start part is mover same (By_goal _ _ join) = By_goal board other join
  start part is mover same (By_move _ _ cell own free win) =
      By_answers board other cell refl (record { inside = within part is cell free.inside; empty = free.empty })
      (λ answered here. respond answered)
  start part is mover same (By_answers _ _ some others free all) = absurd (other-differs player (sym same ∙ others))

  pub or_secures : Secures player whole from to board other
  or_secures = let w : (part : ℕ) × (IsPart part × (has part 0 ≡ false)) = none_in_all 0 in start w.0 w.1.0 player refl (secured w.0 w.1.0)
