-- The And rule is sound. Two goals, each in reach in its own region, are both in reach in the two regions together,
-- where these share no cell: the player answers each move of the opponent's in the region in which it was made. By
-- induction on the boards after one stone more, with the opponent to move, or the player to move in one of the two. Two
-- ends that are joined with one vertex of the player's are joined with each other.
use Rattle.std.proofs.Common.{◌≡◌, ℕ, Bool, true, false, refl, sym, ◌∙◌, ◌⊎◌, inl, inr, ⊎_elim}
use Rattle.std.proofs.lemmas.Bool.{false≢true}
use Rattle.hx_board.specs.declared.colours.Colour.{Colour}
use Rattle.hx_board.specs.declared.vertices.Vertex.{Vertex}
use Rattle.hx_board.specs.declared.vertices.Vertex.TheVariants.{Of}
use Rattle.hx_board.specs.Sets.{has, insert, union}
use Rattle.hx_board.specs.Colours.{other_of}
use Rattle.hx_board.specs.Positions.{Board, IsEmpty, put}
use Rattle.hx_board.specs.Graph.{IsOwn, Joined}
use Rattle.hx_board.proofs.SetLaws.{has-insert_same, has-insert_other, has-union_cases, has-union_left, has-union_right}
use Rattle.hx_board.proofs.Joins.{joined-over_own}
use Rattle.hx_law.specs.Play.{Plays, By_goal, By_move, By_answers}
use Rattle.hx_board.proofs.ColourLaws.{other-differs}
use Rattle.hx_board.proofs.StoneLaws.{stones-put}
use Rattle.hx_law.proofs.Ends.{Ends, After, ends}
use Rattle.hx_board.proofs.KeptStones.{own_stays, joined_stays}
use Rattle.hx_board.specs.Sets.{ShareNone}
use Rattle.hx_proof.specs.Local.{IsJoined, Secures}
use Rattle.hx_proof.proofs.LocalGame.{Goal, Stays, in_reach_in_more_room, in_reach_with_the_move, in_reach_after_stone_outside}
use Rattle.hx_proof.proofs.LocalGame.{in_reach_beside_reached}

-- two regions that share no cell, and both together
pub record AreParts (first second whole : ℕ → Bool) : Type 0 where
  pub from_first : (n : ℕ) → first n ≡ true → whole n ≡ true
  pub from_second : (n : ℕ) → second n ≡ true → whole n ≡ true
  pub in_one : (n : ℕ) → whole n ≡ true → (first n ≡ true) ⊎ (second n ≡ true)
  pub apart : (n : ℕ) → first n ≡ true → second n ≡ true → ⊥

parts-sym : (first second whole : ℕ → Bool) → AreParts first second whole → AreParts second first whole
parts-sym first second whole parts =
    record {
      from_first = parts.from_second;
      from_second = parts.from_first;
      in_one = λ n h. ⊎_elim inr inl (parts.in_one n h);
      apart =
          λ n x y. parts.apart n y x;
    }

module _ (player : Colour) where
  abbrev other : Colour
  other = other_of player

  -- both goals are in reach together, where the first is with this player to move and the second with the opponent to
  -- move
  abbrev pub BothInReach : Colour → Board → Type 1
  BothInReach mover board = (G H K : Goal) → Stays player G → Stays player H → ((b : Board) → G b → H b → K b)
      → (first second whole : ℕ → Bool) → AreParts first second whole
      → Plays player first G board mover → Plays player second H board other → Plays player whole K board mover

  pub record InReach (board : Board) : Type 1 where
    pub answering : BothInReach other board
    pub moving : BothInReach player board

  module _ (board : Board) (next : (who : Colour) (cell : ℕ) → IsEmpty board cell → InReach (put board who cell))
      (G H K : Goal) (stays_g : Stays player G) (stays_h : Stays player H) (both : (b : Board) → G b → H b → K b)
      (first second whole : ℕ → Bool) (parts : AreParts first second whole) where
    answering_from : (one two : Colour) → one ≡ other → two ≡ other → Plays player first G board one → Plays player second H board two
        → Plays player whole K board other
    answering_from one two e d (By_goal _ _ goal) q =
        in_reach_beside_reached player whole G H K stays_g both board other goal
        (in_reach_in_more_room player H stays_h second whole parts.from_second board other (rw d at q))
    answering_from one two e d (By_move _ _ cell own free win) q = absurd (other-differs player (sym own ∙ e))
    answering_from one two e d (By_answers _ _ some o free all) (By_goal _ _ goal) =
        in_reach_beside_reached player whole H G K stays_h (λ b x y. both b y x) board other goal
        (in_reach_in_more_room player G stays_g first whole parts.from_first board other (By_answers board other some refl free all))
    answering_from one two e d (By_answers _ _ some o free all) (By_move _ _ cell own here win) =
        absurd (other-differs player (sym own ∙ d))
    answering_from one two e d (By_answers _ _ some o free all) (By_answers _ _ some_too o_too free_too all_too) =
        By_answers board other some refl (record { inside = parts.from_first some free.inside; empty = free.empty })
        (λ cell here. ⊎_elim
        (λ (in_first : first cell ≡ true).
        (next other cell here.empty).moving G H K stays_g stays_h both first second whole parts
        (all cell (record { inside = in_first; empty = here.empty }))
        (in_reach_after_stone_outside player H stays_h second board other cell (parts.apart cell in_first) other
        (By_answers board other some_too refl free_too all_too)))
        (λ (in_second : second cell ≡ true).
        (next other cell here.empty).moving H G K stays_h stays_g (λ b x y. both b y x) second first whole
        (parts-sym first second whole parts) (all_too cell (record { inside = in_second; empty = here.empty }))
        (in_reach_after_stone_outside player G stays_g first board other cell (λ in_first. parts.apart cell in_first in_second) other
        (By_answers board other some refl free all)))
        (parts.in_one cell here.inside))

    moving_from : (one : Colour) → one ≡ player → Plays player first G board one → Plays player second H board other
        → Plays player whole K board player
    moving_from one e (By_goal _ _ goal) q =
        in_reach_beside_reached player whole G H K stays_g both board player goal
        (in_reach_in_more_room player H stays_h second whole parts.from_second board player
        (in_reach_with_the_move player H stays_h second board q))
    moving_from one e (By_move _ _ cell own free win) q =
        By_move board player cell refl (record { inside = parts.from_first cell free.inside; empty = free.empty })
        ((next player cell free.empty).answering G H K stays_g stays_h both first second whole parts win
        (in_reach_after_stone_outside player H stays_h second board player cell (parts.apart cell free.inside) other q))
    moving_from one e (By_answers _ _ some o free all) q = absurd (other-differs player (sym e ∙ o))

  pub in_reach_from : (board : Board) → Ends board → InReach board
  in_reach_from board (After _ next) = record {
    answering = λ G H K stays_g stays_h both first second whole parts x y.
        answering_from board (λ who cell e.
        in_reach_from (put board who cell)
        (next who cell e)) G H K stays_g stays_h both first second whole parts other other refl refl x y;
    moving = λ G H K stays_g stays_h both first second whole parts x y.
        moving_from board (λ who cell e.
        in_reach_from (put board who cell) (next who cell e)) G H K stays_g stays_h both first second whole parts player refl x y;
  }

  -- ---- the two rules

  lacks : (set n : ℕ) → has set n ≡ false → ¬ (has set n ≡ true)
  lacks set n out h = false≢true (sym out ∙ h)

  module _ (first second : ℕ) (from to : Vertex) (apart : ShareNone first second) where
    parts : AreParts (has first) (has second) (has (union first second))
    parts = record {
      from_first = has-union_left first second;
      from_second = has-union_right first second;
      in_one =
          has-union_cases first second;
      apart = λ n x y. lacks second n (apart n x) y;
    }

    abbrev JoinedToOwn : Vertex → Goal
    JoinedToOwn middle b = IsOwn b player middle × Joined b player from middle

    pub and_stone_secures : (middle : Vertex) (board : Board) → IsOwn board player middle → Secures player first from middle board other
        → Secures player second middle to board other
        → Secures player (union first second) from to board other
    and_stone_secures middle board own x y =
        (in_reach_from board (ends board)).answering (JoinedToOwn middle) (IsJoined player middle to) (IsJoined player from to)
        (λ before after keeps w. (own_stays player before after keeps middle w.0, joined_stays player from middle before after keeps w.1))
        (joined_stays player middle to)
        (λ b w v. joined-over_own b player from middle to w.0 w.1 v)
        (has first) (has second) (has (union first second)) parts
        (in_reach_beside_reached player (has first) (λ b. IsOwn b player middle) (IsJoined player from middle) (JoinedToOwn middle)
        (λ before after keeps. own_stays player before after keeps middle) (λ b o v. (o, v)) board other own x)
        y

    -- the player first moves to the cell
    pub and_cell_secures : (cell : ℕ) (board : Board) → IsEmpty board cell → has first cell ≡ false → has second cell ≡ false
        → Secures player first from (Of cell) board other → Secures player second (Of cell) to board other
        → Secures player (insert (union first second) cell) from to board player
    and_cell_secures cell board empty outside_first outside_second x y =
        By_move board player cell refl (record { inside = has-insert_same (union first second) cell; empty = empty })
        (in_reach_in_more_room player (IsJoined player from to) (joined_stays player from to) (has (union first second))
        (has (insert (union first second) cell)) (has-insert_other (union first second) cell)
        (put board player cell) other
        (and_stone_secures (Of cell) (put board player cell) ((stones-put board player player cell cell).1 (inl (refl, refl)))
        (in_reach_after_stone_outside player (IsJoined player from (Of cell)) (joined_stays player from (Of cell))
        (has first) board player cell (lacks first cell outside_first) other x)
        (in_reach_after_stone_outside player (IsJoined player (Of cell) to) (joined_stays player (Of cell) to)
        (has second) board player cell (lacks second cell outside_second) other y)))
