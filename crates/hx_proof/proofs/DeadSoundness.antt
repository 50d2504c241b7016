-- The colour of a stone on a dead cell does not matter. A walk over the cell is led round it: the vertices before and
-- after the cell are open neighbours of it, and joined without it. So the player's stone there makes no chain. The cell
-- stays dead when other stones come, and by induction on the play the player wins with the opponent's stone there as
-- with an own one.
use Rattle.std.proofs.Common.{◌≡◌, ◌≢◌, ℕ, List, [], ◌∷◌, sym, ap, ◌∙◌, subst, ◌⊎◌, inl, inr, ⊎_elim, arith}
use Rattle.std.proofs.lemmas.Bool.{false≢true, false_from_ne_true}
use Rattle.std.proofs.Math.Decide.{ℕ_discrete}
use Rattle.hx_board.specs.declared.colours.Colour.{Colour}
use Rattle.hx_board.specs.declared.vertices.Vertex.{Vertex}
use Rattle.hx_board.specs.declared.vertices.Vertex.TheVariants.{Of, First, Last}
use Rattle.hx_board.specs.Colours.{other_of}
use Rattle.hx_board.specs.Cells.{CellsTouch, Left, Right, Above, Below, Above_right, Below_left}
use Rattle.hx_board.specs.Positions.{Board, IsBoard, IsEmpty, put}
use Rattle.hx_board.specs.Graph.{IsOwn, Touches, Walk, Joined, HasChain, IsOpen}
use Rattle.hx_board.specs.Game.{Wins, By_chain, By_move, By_answers}
use Rattle.hx_board.proofs.StoneLaws.{size-put, board-put, stones-put, empty-put}
use Rattle.hx_board.proofs.KeptStones.{keeps_put, joined_stays}
use Rattle.hx_board.proofs.Joins.{touches-sym, joined-over_own, joined-touches}
use Rattle.hx_board.proofs.PositionLaws.{own-not_others}
use Rattle.hx_law.proofs.WinLaws.{chain-put}
use Rattle.hx_inferior.specs.Inferior.{IsOpenNeighbour, IsDead}
use Rattle.hx_inferior.proofs.DeadLaws.{of_same}
use Rattle.hx_proof.proofs.StoneOrder.{put-swap}

-- ---- vertices

of_decided : (n m : ℕ) → Dec (n ≡ m) → Dec (Of n ≡ Of m)
of_decided n m (yes same) = yes (ap Of same)
of_decided n m (no differ) = no (λ e. differ (of_same n m e))

is_same_vertex : (v w : Vertex) → Dec (v ≡ w)
is_same_vertex (Of n) (Of m) = of_decided n m (ℕ_discrete n m)
is_same_vertex (Of n) First = no (λ e. cc)
is_same_vertex (Of n) Last = no (λ e. cc)
is_same_vertex First (Of m) = no (λ e. cc)
is_same_vertex First First = yes cc
is_same_vertex First Last = no (λ e. cc)
is_same_vertex Last (Of m) = no (λ e. cc)
is_same_vertex Last First = no (λ e. cc)
is_same_vertex Last Last = yes cc

not_touching_itself : (n : ℕ) → CellsTouch n n → ⊥
not_touching_itself n (Left row col) = omega arith
not_touching_itself n (Right row col) = omega arith
not_touching_itself n (Above row col) = omega arith
not_touching_itself n (Below row col) = omega arith
not_touching_itself n (Above_right row col) = omega arith
not_touching_itself n (Below_left row col) = omega arith

own-open : (board : Board) → IsBoard board → (player : Colour) (v : Vertex) → IsOwn board player v → IsOpen board player v
own-open board is player (Of n) own = own-not_others board is player n own
own-open board is player First own = tt
own-open board is player Last own = tt

-- a vertex that is own after an own stone is on that stone or was own before
own_before : (board : Board) (player : Colour) (cell : ℕ) (v : Vertex) → IsOwn (put board player cell) player v → (v ≡ Of cell)
    ⊎ IsOwn board player v
own_before board player cell (Of n) own = ⊎_elim (λ new. inl (ap Of new.1)) inr ((stones-put board player player cell n).0 own)
own_before board player cell First own = inr tt
own_before board player cell Last own = inr tt

open-before : (board : Board) (who player : Colour) (m : ℕ) (v : Vertex) → IsOpen (put board who m) player v → IsOpen board player v
open-before board who player m (Of n) not =
    false_from_ne_true _ (λ held. false≢true (sym not ∙ (stones-put board who (other_of player) m n).1 (inr held)))
open-before board who player m First not = tt
open-before board who player m Last not = tt

-- ---- a walk is led round a dead cell

module _ (board : Board) (player : Colour) (cell : ℕ) (is : IsBoard board) (dead : IsDead board player cell) where
  open_neighbours_joined : (u v : Vertex) → IsOpenNeighbour board player cell u → IsOpenNeighbour board player cell v
      → Joined board player u v
  open_neighbours_joined u v a b = dead.joined u v a b

  open_neighbour : (x v : Vertex) → x ≡ Of cell → Touches board.size player x v → IsOpen board player v
      → IsOpenNeighbour board player cell v
  open_neighbour x v same touch not =
      record { touch = let P : Vertex → Type 0 = λ z. Touches board.size player z v in subst P same touch; is_open = not }

  not_both_on_cell : (x v : Vertex) → x ≡ Of cell → v ≡ Of cell → Touches board.size player x v → ⊥
  not_both_on_cell x v same also touch =
      let from_cell : Touches board.size player (Of cell) v =
      (let P : Vertex → Type 0 = λ z. Touches board.size player z v in subst P same touch) in
      let to_cell : Touches board.size player (Of cell) (Of cell) =
      (let P : Vertex → Type 0 = λ z. Touches board.size player (Of cell) z in subst P also from_cell) in
      not_touching_itself cell to_cell.2

  -- the end of a walk is joined without the stone: with its start, or where that is the cell, with each open neighbour
  -- of it
  record IsLedRound (from to : Vertex) : Type 0 where
    from_start : from ≢ Of cell → IsOpen board player from → Joined board player from to
    from_neighbours : from ≡ Of cell → (u : Vertex) → IsOpenNeighbour board player cell u → Joined board player u to

  led_round-onto_cell : (from v to : Vertex) → Touches board.size player from v → v ≡ Of cell → IsLedRound v to → IsLedRound from to
  led_round-onto_cell from v to touch on rest = record {
    from_start = λ _ not. rest.from_neighbours on from (open_neighbour v from on (touches-sym board.size player from v touch) not);
    from_neighbours = λ same u a. absurd (not_both_on_cell from v same on touch);
  }

  led_round-elsewhere : (from v to : Vertex) → Touches board.size player from v → v ≢ Of cell → IsOwn board player v → IsLedRound v to
      → IsLedRound from to
  led_round-elsewhere from v to touch off own rest =
      let not : IsOpen board player v = own-open board is player v own in
      record {
        from_start = λ _ _. joined-over_own board player from v to own (joined-touches board player from v touch) (rest.from_start off not);
        from_neighbours = λ same u a.
            joined-over_own board player u v to own (open_neighbours_joined u v a (open_neighbour from v same touch not))
            (rest.from_start off not);
      }

  led_round-one_more : (from v to : Vertex) → Touches board.size player from v → IsOwn (put board player cell) player v → IsLedRound v to
      → Dec (v ≡ Of cell) → IsLedRound from to
  led_round-one_more from v to touch own rest (yes on) = led_round-onto_cell from v to touch on rest
  led_round-one_more from v to touch own rest (no off) =
      led_round-elsewhere from v to touch off (⊎_elim (λ on. absurd (off on)) (λ before. before) (own_before board player cell v own)) rest

  led_round : (inner : List Vertex) (from to : Vertex) → IsOpen board player to → Walk (put board player cell) player from inner to
      → IsLedRound from to
  led_round [] from to not walk =
      let touch : Touches board.size player from to = rw size-put at walk in
      record {
        from_start = λ _ _. joined-touches board player from to touch;
        from_neighbours = λ same u a.
            open_neighbours_joined u to a (open_neighbour from to same touch not);
      }
  led_round (v ∷ vs) from to not walk =
      led_round-one_more from v to (rw size-put at walk.0) walk.1 (led_round vs v to not walk.2) (is_same_vertex v (Of cell))

  pub chain_without_dead : HasChain (put board player cell) player → HasChain board player
  chain_without_dead (inl same) = absurd (cc)
  chain_without_dead (inr walk) = (led_round walk.0 First Last tt walk.1).from_start (λ e. cc) tt

-- ---- a cell stays dead

pub dead_stays : (board : Board) (player who : Colour) (m cell : ℕ) → cell ≢ m → IsDead board player cell
    → IsDead (put board who m) player cell
dead_stays board player who m cell differ dead = record {
  empty = (empty-put board who m cell).1 (dead.empty, differ);
  joined = λ u v a b.
      joined_stays player u v board (put board who m) (keeps_put player board who m)
      (dead.joined u v (open_before u a) (open_before v b));
}
  where
    open_before : (u : Vertex) → IsOpenNeighbour (put board who m) player cell u → IsOpenNeighbour board player cell u
    open_before u a = record { touch = rw size-put at a.touch; is_open = open-before board who player m u a.is_open }

-- ---- the colour of the stone

module _ (player : Colour) where
  abbrev other : Colour
  other = other_of player

  pub wins_with_others_stone_on_dead : (board after : Board) (mover : Colour) (cell : ℕ) → IsBoard board → IsDead board player cell
      → after ≡ put board player cell
      → Wins player after mover → Wins player (put board other cell) mover
  wins_with_others_stone_on_dead board after mover cell is dead same (By_chain _ _ chain) =
      By_chain (put board other cell) mover
      (chain-put player board other cell (chain_without_dead board player cell is dead (rw same at chain)))
  wins_with_others_stone_on_dead board after mover cell is dead same (By_move _ _ m own empty win) =
      let free : IsEmpty board m × (m ≢ cell) = (empty-put board player cell m).0 (rw same at empty) in
      By_move (put board other cell) mover m own ((empty-put board other cell m).1 free)
      (subst (λ (z : Board). Wins player z other) (put-swap board player other m cell)
      (wins_with_others_stone_on_dead (put board player m) (put after player m) other cell (board-put board player m is free.0)
      (dead_stays board player player m cell (λ e. free.1 (sym e)) dead)
      (ap (λ (z : Board). put z player m) same ∙ put-swap board player player cell m) win))
  wins_with_others_stone_on_dead board after mover cell is dead same (By_answers _ _ some others empty all) =
      let free : IsEmpty board some × (some ≢ cell) = (empty-put board player cell some).0 (rw same at empty) in
      By_answers (put board other cell) mover some others ((empty-put board other cell some).1 free) (λ m here.
      let left : IsEmpty board m × (m ≢ cell) = (empty-put board other cell m).0 here in
      subst (λ (z : Board). Wins player z player) (put-swap board other other m cell)
      (wins_with_others_stone_on_dead (put board other m) (put after other m) player cell (board-put board other m is left.0)
      (dead_stays board player other m cell (λ e. left.1 (sym e)) dead)
      (ap (λ (z : Board). put z other m) same ∙ put-swap board player other cell m)
      (all m (rw same ((empty-put board player cell m).1 left)))))
