-- Which moves can kill a cell. A stone of the mover's joins nothing for the opponent, so what it makes dead for him it
-- touches. What it joins for the mover was joined with its cell: so a pair that is new with it has an open neighbour
-- that was joined with its cell.
use Rattle.std.proofs.Common.{◌≡◌, ◌≢◌, ℕ, ◌<◌, true, false, ◌&&◌, sym, ◌∙◌, subst, ⊎_elim, ◌↔◌, ltb}
use Rattle.std.specs.declared.option.Option.{Option}
use Rattle.std.specs.declared.option.Option.TheVariants.{None, Some}
use Rattle.std.proofs.lemmas.Bool.{false≢true, lt-ltb, and_from}
use Rattle.hx_board.specs.declared.cells.TheConstants.{CELLS}
use Rattle.hx_board.specs.declared.colours.Colour.{Colour}
use Rattle.hx_board.specs.declared.vertices.Vertex.{Vertex}
use Rattle.hx_board.specs.declared.vertices.Vertex.TheVariants.{Of}
use Rattle.hx_board.specs.Finds.{Finds}
use Rattle.hx_board.specs.Colours.{other_of}
use Rattle.hx_board.specs.Sets.{has, union}
use Rattle.hx_board.specs.Positions.{Board, IsEmpty, put}
use Rattle.hx_board.specs.Graph.{Joined}
use Rattle.hx_board.specs.VertexSets.{code_of, IsSetOf}
use Rattle.hx_board.proofs.ColourLaws.{other-differs}
use Rattle.hx_board.proofs.SetLaws.{has-union_left, has-union_right, by_member}
use Rattle.hx_board.proofs.StoneLaws.{size-put, stones-put, empty-put}
use Rattle.hx_board.proofs.KeptStones.{joined_stays}
use Rattle.hx_board.proofs.Joins.{joined-sym}
use Rattle.hx_inferior.specs.declared.dominations.Kill.TheVariants.{ByDead, ByPair}
use Rattle.hx_inferior.specs.Inferior.{IsOpenNeighbour, IsDead, IsPair, IsDominated}
use Rattle.hx_inferior.proofs.PairLaws.{pair-a_empty, pair-b_empty, pair-differ}
use Rattle.hx_fill.specs.declared.makers.Makers.{Makers}
use Rattle.hx_fill.specs.Makers.{IsMaker, AreMakers}
use Rattle.hx_fill.specs.Views.{HoldsReached}
use Rattle.hx_fill.specs.Unders.{AreKillers}
use Rattle.hx_fill.proofs.JoinedAfter.{joined_before, joined_still, joined_over_stone}
use Rattle.hx_fill.proofs.OpenAfter.{open-vertex, open_before, open_after, open_elsewhere}

-- the cells of a set of vertices
pub cells_have : (set cells n : ℕ) → ((k : ℕ) → has cells k ≡ (has set k && ltb k CELLS)) → n < 121 → has set n ≡ true → has cells n ≡ true
cells_have set cells n are small h = are n ∙ and_from _ _ h (lt-ltb n 121 small)

-- ---- by a cell that becomes dead for the opponent

module _ (board : Board) (mover : Colour) (better worse around : ℕ)
    (is : IsSetOf board.size (IsOpenNeighbour board (other_of mover) worse) around)
    (apart : has around better ≡ false) where
  joined_without : (from to : Vertex) → Joined (put board mover better) (other_of mover) from to → Joined board (other_of mover) from to
  joined_without from to joined = joined_stays (other_of mover) from to (put board mover better) board (record {
    same_size = sym (size-put board mover better);
    own = λ n h. ⊎_elim (λ new. absurd (other-differs mover new.0)) (λ was. was) ((stones-put board mover (other_of mover) better n).0 h);
  }) joined

  still : (v : Vertex) → IsOpenNeighbour board (other_of mover) worse v → IsOpenNeighbour (put board mover better) (other_of mover) worse v
  still v o = open_elsewhere board mover better worse v differ o
    where
      differ : code_of v ≢ better
      differ same =
          let P : ℕ → Type 0 = λ x. has around x ≡ true in
          false≢true (sym apart ∙ subst P same ((is.members v (open-vertex board (other_of mover) worse v o)).1 o))

  pub dead_before : IsDead (put board mover better) (other_of mover) worse → IsDead board (other_of mover) worse
  dead_before dead = record {
    empty = ((empty-put board mover better worse).0 dead.empty).0;
    joined = λ one other o p. joined_without one other (dead.joined one other (still one o) (still other p));
  }

pub killers_by_dead-neighbours : (board : Board) (mover : Colour) (worse around : ℕ)
    → IsSetOf board.size (IsOpenNeighbour board (other_of mover) worse) around
    → (IsDead board (other_of mover) worse → ⊥) → (better : ℕ) → IsDominated board mover better worse ByDead → has around better ≡ true
killers_by_dead-neighbours board mover worse around is not_dead better dominated =
    by_member around better (λ h. h) (λ apart. absurd (not_dead (dead_before board mover better worse around is apart dominated.killed)))

-- ---- by a cell that becomes one of a pair

-- no open neighbour of the cell is joined with the other one
abbrev pub IsApart : Board → Colour → ℕ → ℕ → Type 0
IsApart board player cell other = (v : Vertex) → IsOpenNeighbour board player cell v → Joined board player v (Of other) → ⊥

module _ (board : Board) (player : Colour) (stone : ℕ) where
  module _ (cell : ℕ) (apart : IsApart board player cell stone) where
    same_joined : (v to : Vertex) → IsOpenNeighbour board player cell v → Joined (put board player stone) player v to
        → Joined board player v to
    same_joined v to o joined = ⊎_elim (λ j. j) (λ both. absurd (apart v o both.0)) (joined_before board player stone v to joined)

    -- a maker of the cell was one before a stone that none of its open neighbours was joined with
    pub dead_without : (maker : ℕ) → IsEmpty board cell → cell ≢ maker → IsDead (put (put board player stone) player maker) player cell
        → IsDead (put board player maker) player cell
    dead_without maker empty differ dead = record {
      empty = (empty-put board player maker cell).1 (empty, differ);
      joined = λ one other o p.
          joined one other (open_before board player maker cell one o) (open_before board player maker cell other p)
          (dead.joined one other (later one o) (later other p));
    }
      where
        later : (v : Vertex) → IsOpenNeighbour (put board player maker) player cell v
            → IsOpenNeighbour (put (put board player stone) player maker) player cell v
        later v o = open_after (put board player stone) player maker cell v
            (open_after board player stone cell v (open_before board player maker cell v o))

        joined : (one other : Vertex) → IsOpenNeighbour board player cell one → IsOpenNeighbour board player cell other
            → Joined (put (put board player stone) player maker) player one other
            → Joined (put board player maker) player one other
        joined one other o p with_both = ⊎_elim
            (λ j. joined_still board player maker one other (same_joined one other o j))
            (λ both. joined_over_stone board player maker one other (same_joined one (Of maker) o both.0)
            (joined-sym board player other (Of maker)
            (same_joined other (Of maker) p (joined-sym (put board player stone) player (Of maker) other both.1))))
            (joined_before (put board player stone) player maker one other with_both)

  pub maker_before : (a b : ℕ) → IsPair (put board player stone) player a b → IsApart board player a stone → IsMaker board player a b
  maker_before a b pair apart =
      let differ : a ≢ b = pair-differ (put board player stone) player a b pair in
      let empty_a = ((empty-put board player stone a).0 (pair-a_empty (put board player stone) player a b pair)).0 in
      record {
        empty = ((empty-put board player stone b).0 (pair-b_empty (put board player stone) player a b pair)).0;
        differ = λ e. differ (sym e);
        dead = dead_without a apart b empty_a differ pair.a_dead;
      }

  pub pair_before : (a b : ℕ) → IsPair (put board player stone) player a b → IsApart board player a stone → IsApart board player b stone
      → IsPair board player a b
  pair_before a b pair apart_a apart_b =
      let maker = maker_before a b pair apart_a in
      record { a_dead = maker.dead; b_dead = dead_without b apart_b a maker.empty maker.differ pair.b_dead }

-- a cell that is a pair with no maker among the empty cells is a pair with none
pub no_pair-by_makers : (board : Board) (player : Colour) (cell among : ℕ) (makers : Makers) → AreMakers board player cell among makers
    → ((n : ℕ) → IsEmpty board n → has among n ≡ true) → ((n : ℕ) → has makers.cells n ≡ true → ¬ IsPair board player cell n) → (n : ℕ)
    → ¬ IsPair board player cell n
no_pair-by_makers board player cell among makers are all none n pair =
    none n ((are.cells n).1
    (all n empty, record { empty = empty; differ = λ e. pair-differ board player cell n pair (sym e); dead = pair.a_dead })) pair
  where
    empty : IsEmpty board n
    empty = pair-b_empty board player cell n pair

-- a partner after a move is one that makes the move a better one
pub partner-dominates : (board : Board) (mover : Colour) (better worse : ℕ) (makers : ℕ) (found : Option ℕ) → IsEmpty board better
    → (((n : ℕ) → has makers n ≡ true → ¬ IsPair (put board mover better) mover worse n) → (n : ℕ)
    → ¬ IsPair (put board mover better) mover worse n)
    → Finds found (λ n. (has makers n ≡ true) × IsPair (put board mover better) mover worse n)
    → Finds found (λ n. IsDominated board mover better worse (ByPair n))
partner-dominates board mover better worse makers None empty all none = λ n dominated.
    all (λ k among pair. none k (among, pair)) n dominated.killed
partner-dominates board mover better worse makers (Some partner) empty all is = record { better_empty = empty; killed = is.1 }

module _ (board : Board) (mover : Colour) (worse : ℕ) where
  not_reached : (cell better near : ℕ) → IsEmpty board better → HoldsReached board mover cell near → has near better ≡ false
      → IsApart board mover cell better
  not_reached cell better near empty holds misses v o joined =
      false≢true (sym misses ∙ holds v o better empty.on_board joined)

  pub killers_by_pair-reached : (empties : ℕ) (makers : Makers) (near near_makers : ℕ)
      → ((n : ℕ) → (has empties n ≡ true) ↔ IsEmpty board n) → AreMakers board mover worse empties makers
      → ((partner : ℕ) → has makers.cells partner ≡ true → ¬ IsPair board mover worse partner)
      → HoldsReached board mover worse near → ((cell : ℕ) → has makers.cells cell ≡ true → HoldsReached board mover cell near_makers)
      → (better partner : ℕ) → IsDominated board mover better worse (ByPair partner) → has (union near near_makers) better ≡ true
  killers_by_pair-reached empties makers near near_makers empties_are makers_are no_pair holds holds_each better partner dominated =
      by_member near better (λ h. has-union_left near near_makers better h)
      (λ misses. has-union_right near near_makers better (by_maker misses))
    where
      by_maker : has near better ≡ false → has near_makers better ≡ true
      by_maker misses = by_member near_makers better (λ h. h)
          (λ none. absurd (no_pair partner among (pair_before board mover better worse partner dominated.killed apart
          (not_reached partner better near_makers dominated.better_empty (holds_each partner among) none))))
        where
          apart : IsApart board mover worse better
          apart = not_reached worse better near dominated.better_empty holds misses

          maker : IsMaker board mover worse partner
          maker = maker_before board mover better worse partner dominated.killed apart

          among : has makers.cells partner ≡ true
          among = (makers_are.cells partner).1 ((empties_are partner).1 maker.empty, maker)

-- outside of the two sets no cell is better
pub killers-both : (board : Board) (mover : Colour) (worse by_dead by_pair : ℕ)
    → ((better : ℕ) → IsDominated board mover better worse ByDead → has by_dead better ≡ true)
    → ((better partner : ℕ) → IsDominated board mover better worse (ByPair partner) → has by_pair better ≡ true)
    → AreKillers board mover worse (union by_dead by_pair)
killers-both board mover worse by_dead by_pair dead pair better ByDead dominated =
    has-union_left by_dead by_pair better (dead better dominated)
killers-both board mover worse by_dead by_pair dead pair better (ByPair partner) dominated =
    has-union_right by_dead by_pair better (pair better partner dominated)
