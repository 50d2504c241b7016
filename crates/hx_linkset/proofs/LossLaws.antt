-- What a play takes from a link that was live: where it fills no cell of the carrier and takes no end, the link is live
-- still, and else it is not.
use Rattle.std.proofs.Common.{◌≡◌, ℕ, Bool, true, false, refl, sym, ◌∙◌, subst}
use Rattle.std.proofs.lemmas.Bool.{false≢true}
use Rattle.hx_board.specs.declared.colours.Colour.{Colour}
use Rattle.hx_board.specs.declared.vertices.Vertex.{Vertex}
use Rattle.hx_board.specs.Sets.{has, difference, ShareOne, ShareNone}
use Rattle.hx_board.specs.Positions.{Board, IsEmpty}
use Rattle.hx_board.specs.VertexSets.{code_of, IsSomeVertex}
use Rattle.hx_board.proofs.SetLaws.{has-difference_right, has-difference_both}
use Rattle.hx_link.specs.declared.links.Allowed.{Allowed}
use Rattle.hx_link.specs.declared.links.Link.{Link}
use Rattle.hx_link.specs.Steps.{IsEnd, IsAllowed}
use Rattle.hx_linkset.specs.declared.liveness.Losses.{Losses}
use Rattle.hx_linkset.specs.States.{IsLive}
use Rattle.hx_linkset.specs.Losses.{AreLosses}

true_from_ne_false : (b : Bool) → (b ≡ false → ⊥) → b ≡ true
true_from_ne_false true other = refl
true_from_ne_false false other = absurd (other refl)

module _ (losses : Losses) (before after : Allowed) (l : AreLosses losses before after) (new : Board) (player : Colour)
    (is_allowed : IsAllowed after new player) where
  filled_gone : (cell : ℕ) → has losses.filled cell ≡ true → IsEmpty new cell → ⊥
  filled_gone cell filled empty =
      let P : ℕ → Type 0 = λ set. has set cell ≡ true in
      let gone : has after.empties cell ≡ false = has-difference_right before.empties after.empties cell (subst P l.filled filled) in
      false≢true (sym gone ∙ (is_allowed.empties cell).1 empty)

  -- a link with a filled cell in its carrier is not live
  pub filled-dead : (link : Link) → ShareOne link.carrier losses.filled → IsLive new player link → ⊥
  filled-dead link s live = filled_gone s.shared s.in_other (live.empty s.shared s.in_set)

  -- an end that is taken is one no more
  pub taken-no_end : (vertex : Vertex) → IsSomeVertex vertex → has losses.ends (code_of vertex) ≡ true → IsEnd new player vertex → ⊥
  taken-no_end vertex some taken end =
      let P : ℕ → Type 0 = λ set. has set (code_of vertex) ≡ true in
      let gone : has after.ends (code_of vertex) ≡ false =
      has-difference_right before.ends after.ends (code_of vertex) (subst P l.ends taken) in
      false≢true (sym gone ∙ (is_allowed.ends vertex some).1 end)

  module _ (old : Board) (was_allowed : IsAllowed before old player) where
    -- a cell that was empty and is not filled is empty
    unfilled-empty : (cell : ℕ) → has losses.filled cell ≡ false → IsEmpty old cell → IsEmpty new cell
    unfilled-empty cell unfilled empty =
        let P : ℕ → Type 0 = λ set. has set cell ≡ false in
        let lacks : has (difference before.empties after.empties) cell ≡ false = subst P l.filled unfilled in
        (is_allowed.empties cell).0 (true_from_ne_false (has after.empties cell) (λ gone.
        false≢true (sym lacks ∙ has-difference_both before.empties after.empties cell ((was_allowed.empties cell).1 empty) gone)))

    -- an end that is not taken is one still
    pub untaken-end : (vertex : Vertex) → IsSomeVertex vertex → has losses.ends (code_of vertex) ≡ false → IsEnd old player vertex
        → IsEnd new player vertex
    untaken-end vertex some untaken end =
        let P : ℕ → Type 0 = λ set. has set (code_of vertex) ≡ false in
        let lacks : has (difference before.ends after.ends) (code_of vertex) ≡ false = subst P l.ends untaken in
        (is_allowed.ends vertex some).0 (true_from_ne_false (has after.ends (code_of vertex)) (λ gone.
        false≢true (sym lacks ∙ has-difference_both before.ends after.ends (code_of vertex) ((was_allowed.ends vertex some).1 end) gone)))

    -- a link that was live, and of which nothing is taken, is live still
    pub untaken-live : (link : Link) → ShareNone link.carrier losses.filled → IsLive old player link
        → IsEnd new player link.a × IsEnd new player link.b → IsLive new player link
    untaken-live link none live ends = record {
      empty = λ cell h. unfilled-empty cell (none cell h) (live.empty cell h);
      a_end = ends.0;
      b_end = ends.1;
    }
