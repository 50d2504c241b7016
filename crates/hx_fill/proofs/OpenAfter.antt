-- The open neighbours of a cell, as a set, and after one stone more: an own stone leaves them as they are, and the
-- opponent's takes its own cell away from them.
use Rattle.std.proofs.Common.{◌≡◌, ◌≢◌, ℕ, ◌<◌, true, sym, ◌∙◌, subst, inl, inr, ⊎_elim, arith, ◌↔◌}
use Rattle.std.proofs.lemmas.Bool.{false≢true, false_from_ne_true}
use Rattle.hx_board.specs.declared.colours.Colour.{Colour}
use Rattle.hx_board.specs.declared.vertices.Vertex.{Vertex}
use Rattle.hx_board.specs.declared.vertices.Vertex.TheVariants.{Of, First, Last}
use Rattle.hx_board.specs.Colours.{other_of}
use Rattle.hx_board.specs.Sets.{has, remove}
use Rattle.hx_board.specs.Positions.{Board, put}
use Rattle.hx_board.specs.Graph.{IsVertex, IsOpen}
use Rattle.hx_board.specs.VertexSets.{code_of, IsSetOf}
use Rattle.hx_board.proofs.ColourLaws.{other-other, other-differs}
use Rattle.hx_board.proofs.SetLaws.{has-remove_before, removed, has-remove_other}
use Rattle.hx_board.proofs.StoneLaws.{size-put, stones-put}
use Rattle.hx_board.proofs.Joins.{touches-vertex}
use Rattle.hx_inferior.specs.Inferior.{IsOpenNeighbour}
use Rattle.hx_fill.specs.Makers.{IsAmong}

pub open-vertex : (board : Board) (player : Colour) (cell : ℕ) (v : Vertex) → IsOpenNeighbour board player cell v → IsVertex board.size v
open-vertex board player cell v o = touches-vertex board.size player (Of cell) v o.touch

-- the vertices of the set are the open neighbours
pub among-open : (board : Board) (player : Colour) (cell around : ℕ) → IsSetOf board.size (IsOpenNeighbour board player cell) around
    → (v : Vertex) → IsAmong board.size around v ↔ IsOpenNeighbour board player cell v
among-open board player cell around is v = (
  (λ among. (is.members v among.0).0 among.1),
  (λ o. let on = open-vertex board player cell v o in (on, (is.members v on).1 o)),
)

-- ---- after an own stone

module _ (board : Board) (player : Colour) (stone : ℕ) where
  is_open-before : (v : Vertex) → IsOpen (put board player stone) player v → IsOpen board player v
  is_open-before (Of n) is_open =
      false_from_ne_true _ (λ held. false≢true (sym is_open ∙ (stones-put board player (other_of player) stone n).1 (inr held)))
  is_open-before First is_open = tt
  is_open-before Last is_open = tt

  is_open-after : (v : Vertex) → IsOpen board player v → IsOpen (put board player stone) player v
  is_open-after (Of n) is_open =
      false_from_ne_true _ (λ held. ⊎_elim (λ new. other-differs player new.0) (λ was. false≢true (sym is_open ∙ was))
      ((stones-put board player (other_of player) stone n).0 held))
  is_open-after First is_open = tt
  is_open-after Last is_open = tt

  pub open_before : (cell : ℕ) (v : Vertex) → IsOpenNeighbour (put board player stone) player cell v → IsOpenNeighbour board player cell v
  open_before cell v o = record { touch = rw size-put at o.touch; is_open = is_open-before v o.is_open }

  pub open_after : (cell : ℕ) (v : Vertex) → IsOpenNeighbour board player cell v → IsOpenNeighbour (put board player stone) player cell v
  open_after cell v o = record { touch = rw size-put o.touch; is_open = is_open-after v o.is_open }

  pub open-own_after : (cell around : ℕ) → IsSetOf board.size (IsOpenNeighbour board player cell) around
      → IsSetOf (put board player stone).size (IsOpenNeighbour (put board player stone) player cell) around
  open-own_after cell around is = record {
    vertices = λ n h. rw size-put (is.vertices n h);
    members = λ v now_on. let on : IsVertex board.size v = rw size-put at now_on in (
      (λ h. open_after cell v ((is.members v on).0 h)),
      (λ o. (is.members v on).1 (open_before cell v o)),
    );
  }

-- ---- after a stone of the opponent's

module _ (board : Board) (mover : Colour) (stone : ℕ) where
  is_open-others_before : (v : Vertex) → IsOpen (put board mover stone) (other_of mover) v → IsOpen board (other_of mover) v
  is_open-others_before (Of n) is_open =
      false_from_ne_true _ (λ held. false≢true (sym is_open ∙ (stones-put board mover (other_of (other_of mover)) stone n).1 (inr held)))
  is_open-others_before First is_open = tt
  is_open-others_before Last is_open = tt

  is_open-elsewhere : (v : Vertex) → code_of v ≢ stone → IsOpen board (other_of mover) v → IsOpen (put board mover stone) (other_of mover) v
  is_open-elsewhere (Of n) differ is_open =
      false_from_ne_true _ (λ held. ⊎_elim (λ new. differ new.1) (λ was. false≢true (sym is_open ∙ was))
      ((stones-put board mover (other_of (other_of mover)) stone n).0 held))
  is_open-elsewhere First differ is_open = tt
  is_open-elsewhere Last differ is_open = tt

  pub open_elsewhere : (cell : ℕ) (v : Vertex) → code_of v ≢ stone → IsOpenNeighbour board (other_of mover) cell v
      → IsOpenNeighbour (put board mover stone) (other_of mover) cell v
  open_elsewhere cell v differ o = record { touch = rw size-put o.touch; is_open = is_open-elsewhere v differ o.is_open }

  not_taken : stone < 121 → (v : Vertex) → IsOpen (put board mover stone) (other_of mover) v → code_of v ≢ stone
  not_taken small (Of n) is_open same =
      false≢true (sym is_open ∙ (stones-put board mover (other_of (other_of mover)) stone n).1 (inl (sym (other-other mover), same)))
  not_taken small First is_open same = absurd (omega arith)
  not_taken small Last is_open same = absurd (omega arith)

  pub open-others_after : stone < 121 → (cell around : ℕ) → IsSetOf board.size (IsOpenNeighbour board (other_of mover) cell) around
      → IsSetOf (put board mover stone).size (IsOpenNeighbour (put board mover stone) (other_of mover) cell) (remove around stone)
  open-others_after small cell around is = record {
    vertices = λ n h. rw size-put (is.vertices n (has-remove_before around stone n h));
    members = λ v now_on. let on : IsVertex board.size v = rw size-put at now_on in (
      (λ h. open_elsewhere cell v (not_removed v h) ((is.members v on).0 (has-remove_before around stone (code_of v) h))),
      (λ o. has-remove_other around stone (code_of v) (not_taken small v o.is_open)
          ((is.members v on).1 (record { touch = rw size-put at o.touch; is_open = is_open-others_before v o.is_open }))),
    );
  }
    where
      not_removed : (v : Vertex) → has (remove around stone) (code_of v) ≡ true → code_of v ≢ stone
      not_removed v h same =
          false≢true (sym (removed around stone) ∙ (let P : ℕ → Type 0 = λ x. has (remove around stone) x ≡ true in subst P same h))
