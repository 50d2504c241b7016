-- Where the vertices are not joined, the player with the move secures them exactly where some move to a free cell does,
-- and with the opponent to move exactly where some cell is free and each move of the opponent's to a free cell leaves
-- them secured.
use Rattle.std.proofs.Common.{◌≡◌, ℕ, Bool, true, false, refl, sym, ◌∙◌, ◌↔◌, ⊎_elim, not}
use Rattle.std.proofs.lemmas.Bool.{false≢true}
use Rattle.hx_board.specs.declared.colours.Colour.{Colour}
use Rattle.hx_board.specs.declared.vertices.Vertex.{Vertex}
use Rattle.hx_board.specs.Colours.{other_of}
use Rattle.hx_board.specs.Positions.{Board, put}
use Rattle.hx_board.specs.Sets.{has}
use Rattle.hx_board.proofs.ColourLaws.{other-differs, other-other, one_or_other}
use Rattle.hx_law.specs.Play.{IsFree, By_goal, By_move, By_answers}
use Rattle.hx_proof.specs.Local.{IsJoined, Secures}
use Rattle.hx_template.specs.Entries.{IsSo}

module _ (player : Colour) (carrier : ℕ) (a b : Vertex) (board : Board) (apart : IsJoined player a b board → ⊥) where
  others : (mover : Colour) → (false ≡ true) ↔ (mover ≡ player) → mover ≡ other_of player
  others mover is = ⊎_elim (λ e. absurd (false≢true (is.1 e))) (λ e. e) (one_or_other mover player)

  abbrev After : Colour → ℕ → Type 0
  After mover cell = Secures player carrier a b (put board mover cell) (other_of mover)

  own_move : Secures player carrier a b board player → (cell : ℕ) × IsFree (has carrier) board cell × After player cell
  own_move win = go player refl win
    where
      go : (mover : Colour) → mover ≡ player → Secures player carrier a b board mover
          → (cell : ℕ) × IsFree (has carrier) board cell × After player cell
      go mover own (By_goal _ _ goal) = absurd (apart goal)
      go mover own (By_move _ _ cell _ free win) = (cell, free, win)
      go mover own (By_answers _ _ _ others _ _) = absurd (other-differs player (sym own ∙ others))

  others_move : Secures player carrier a b board (other_of player) → (cell : ℕ) → IsFree (has carrier) board cell
      → After (other_of player) cell
  others_move win = go (other_of player) refl win
    where
      go : (mover : Colour) → mover ≡ other_of player → Secures player carrier a b board mover → (cell : ℕ)
          → IsFree (has carrier) board cell → After (other_of player) cell
      go mover others (By_goal _ _ goal) cell here = absurd (apart goal)
      go mover others (By_move _ _ _ own _ _) cell here = absurd (other-differs player (sym own ∙ others))
      go mover others (By_answers _ _ _ _ _ all) cell here = rw (other-other player) (all cell here)

  some_free : (mover : Colour) → Secures player carrier a b board mover → (cell : ℕ) × IsFree (has carrier) board cell
  some_free mover (By_goal _ _ goal) = absurd (apart goal)
  some_free mover (By_move _ _ cell _ free _) = (cell, free)
  some_free mover (By_answers _ _ some _ free _) = (some, free)

  -- without a free cell nothing is secured
  pub none_free : (mover : Colour) → ((cell : ℕ) → ¬ IsFree (has carrier) board cell) → Secures player carrier a b board mover → ⊥
  none_free mover none win = let w = some_free mover win in none w.0 w.1

  -- The mover has found a move with which he gets what he wants: the player that the vertices are secured, the opponent
  -- that they are not.
  pub found : (mover : Colour) (own : Bool) → (own ≡ true) ↔ (mover ≡ player) → (cell : ℕ) → IsFree (has carrier) board cell
      → IsSo own (After mover cell)
      → (own ≡ true) ↔ Secures player carrier a b board mover
  found mover true is cell free so =
      let same : mover ≡ player = is.0 refl in
      ((λ _. By_move board mover cell same free (rw same at so)), (λ _. refl))
  found mover false is cell free so =
      let same : mover ≡ other_of player = others mover is in
      ((λ e. absurd (false≢true e)), (λ win. absurd (so (rw same (others_move (rw same at win) cell free)))))

  -- the mover has found none, though some cell is free
  pub not_found : (mover : Colour) (own : Bool) → (own ≡ true) ↔ (mover ≡ player) → (some : ℕ) → IsFree (has carrier) board some
      → ((cell : ℕ) → IsFree (has carrier) board cell → IsSo (not own) (After mover cell))
      → (not own ≡ true) ↔ Secures player carrier a b board mover
  not_found mover true is some free none =
      let same : mover ≡ player = is.0 refl in
      ((λ e. absurd (false≢true e)), (λ win. let w = own_move (rw same at win) in absurd (none w.0 w.1 (rw same w.2))))
  not_found mover false is some free all =
      let same : mover ≡ other_of player = others mover is in
      ((λ _. By_answers board mover some same free (λ cell here. rw (other-other player) at (rw same at (all cell here)))), (λ _. refl))
