-- A goal that more stones of the player do not spoil stays in reach on a better board: one with more of the player's
-- stones, fewer of the opponent's and more room; and it stays in reach with a move more. Both by one induction on the
-- boards after the better one, and in it on the play. The player moves and answers as on the first board; where that
-- cell is taken already, or the opponent's was not to be had there, the player has a move more.
use Rattle.std.proofs.Common.{◌≡◌, ◌≢◌, ℕ, Bool, true, false, refl, sym, ◌∙◌, ◌⊎◌, inl, inr, ⊎_elim, ◌↔◌}
use Rattle.std.proofs.lemmas.Bool.{false≢true, cases_Bool}
use Rattle.std.proofs.Math.Decide.{ℕ_discrete}
use Rattle.hx_board.specs.declared.colours.Colour.{Colour}
use Rattle.hx_board.specs.Sets.{has}
use Rattle.hx_board.specs.Colours.{other_of}
use Rattle.hx_board.specs.Positions.{Board, IsEmpty, put, stones_of}
use Rattle.hx_law.specs.Play.{IsFree, Plays, By_goal, By_move, By_answers}
use Rattle.hx_board.proofs.ColourLaws.{other-differs}
use Rattle.hx_board.proofs.StoneLaws.{size-put, stones-put, empty-put}
use Rattle.hx_board.proofs.KeptStones.{KeepsStones}
use Rattle.hx_law.proofs.Ends.{Ends, After, ends, is_empty, some_or_all}

-- ---- free cells

free-put : (region : ℕ → Bool) (board : Board) (who : Colour) (cell n : ℕ) → IsFree region (put board who cell) n
    ↔ (IsFree region board n × (n ≢ cell))
free-put region board who cell n = (
  (λ free. let w = (empty-put board who cell n).0 free.empty in (record { inside = free.inside; empty = w.0 }, w.1)),
  (λ w. record { inside = w.0.inside; empty = (empty-put board who cell n).1 (w.0.empty, w.1) }),
)

is_free : (region : ℕ → Bool) (board : Board) (cell : ℕ) → Dec (IsFree region board cell)
is_free region board cell = decide (cases_Bool (region cell)) (is_empty board cell)
  where
    decide : (region cell ≡ true) ⊎ (region cell ≡ false) → Dec (IsEmpty board cell) → Dec (IsFree region board cell)
    decide (inl inside) (yes empty) = yes (record { inside = inside; empty = empty })
    decide (inl inside) (no held) = no (λ free. held free.empty)
    decide (inr outside) _ = no (λ free. false≢true (sym outside ∙ free.inside))

some_free_or_none : (region : ℕ → Bool) (board : Board) → ((cell : ℕ) × IsFree region board cell)
    ⊎ ((cell : ℕ) → ¬ IsFree region board cell)
some_free_or_none region board = ⊎_elim
    (λ w. inl (w.0, record { inside = w.1.1; empty = w.1.0 }))
    (λ all. inr (λ cell free. false≢true (sym (all cell free.empty) ∙ free.inside)))
    (some_or_all board (λ cell. region cell ≡ true) (λ cell. region cell ≡ false) (λ cell _. cases_Bool (region cell)))

module _ (player : Colour) where
  abbrev other : Colour
  other = other_of player

  -- the board after, with the larger region, is at least as good for the player
  pub record IsAsGood (region larger : ℕ → Bool) (before after : Board) : Type 0 where
    pub keeps : KeepsStones player before after
    pub free : (n : ℕ) → IsFree region before n → IsFree larger after n ⊎ (has (stones_of after player) n ≡ true)

  pub as_good_itself : (region : ℕ → Bool) (board : Board) → IsAsGood region region board board
  as_good_itself region board = record { keeps = record { same_size = refl; own = λ n h. h }; free = λ n free. inl free }

  module _ (region larger : ℕ → Bool) (before after : Board) (good : IsAsGood region larger before after) where
    -- the same stone on both
    as_good_both : (who : Colour) (cell : ℕ) → IsAsGood region larger (put before who cell) (put after who cell)
    as_good_both who cell = record {
      keeps = record {
        same_size = size-put after who cell ∙ good.keeps.same_size ∙ sym (size-put before who cell);
        own = λ n h. (stones-put after who player cell n).1
            (⊎_elim inl (λ k. inr (good.keeps.own n k)) ((stones-put before who player cell n).0 h));
      };
      free = λ n h. let w : IsFree region before n × (n ≢ cell) = (free-put region before who cell n).0 h in ⊎_elim
          (λ free. inl ((free-put larger after who cell n).1 (free, w.1)))
          (λ own. inr ((stones-put after who player cell n).1 (inr own)))
          (good.free n w.0);
    }

    -- one stone less: the opponent's, or an own one that the board after has
    as_good_less : (who : Colour) (cell : ℕ) → (who ≡ player → has (stones_of after player) cell ≡ true)
        → IsAsGood region larger (put before who cell) after
    as_good_less who cell there = record {
      keeps = record {
        same_size = good.keeps.same_size ∙ sym (size-put before who cell);
        own = λ n h. ⊎_elim (λ w. rw w.1 (there w.0)) (good.keeps.own n) ((stones-put before who player cell n).0 h);
      };
      free = λ n h. good.free n ((free-put region before who cell n).0 h).0;
    }

    -- one stone more: the player's, or on a cell that was not free
    pub as_good_more : (who : Colour) (cell : ℕ) → (who ≡ player) ⊎ ¬ IsFree region before cell
        → IsAsGood region larger before (put after who cell)
    as_good_more who cell reason = record {
      keeps = record {
        same_size = size-put after who cell ∙ good.keeps.same_size;
        own = λ n h. (stones-put after who player cell n).1 (inr (good.keeps.own n h));
      };
      free = λ n h. at n h (ℕ_discrete n cell) (good.free n h);
    }
      where
        at : (n : ℕ) → IsFree region before n → Dec (n ≡ cell) → IsFree larger after n ⊎ (has (stones_of after player) n ≡ true)
            → IsFree larger (put after who cell) n ⊎ (has (stones_of (put after who cell) player) n ≡ true)
        at n h (yes same) _ =
            ⊎_elim (λ own. inr ((stones-put after who player cell n).1 (inl (own, same)))) (λ held. absurd (held (rw (← same) h))) reason
        at n h (no differ) (inl free) = inl ((free-put larger after who cell n).1 (free, differ))
        at n h (no differ) (inr own) = inr ((stones-put after who player cell n).1 (inr own))

  module _ (Goal : Board → Type 0) (stays : (before after : Board) → KeepsStones player before after → Goal before → Goal after)
      (larger : ℕ → Bool) where
    abbrev InReach : Board → Colour → Type 0
    InReach board mover = Plays player larger Goal board mover

    -- the two claims, of the better board
    pub record Kept (after : Board) : Type 0 where
      pub better : (region : ℕ → Bool) (before : Board) (mover : Colour) → IsAsGood region larger before after
          → Plays player region Goal before mover → Plays player larger Goal after mover
      pub move_more : (mover : Colour) → mover ≡ other → Plays player larger Goal after mover → Plays player larger Goal after player

    goal_of_full : (after : Board) (mover : Colour) → ((cell : ℕ) → ¬ IsFree larger after cell) → InReach after mover → Goal after
    goal_of_full after mover full (By_goal _ _ goal) = goal
    goal_of_full after mover full (By_move _ _ cell _ free _) = absurd (full cell free)
    goal_of_full after mover full (By_answers _ _ some _ free _) = absurd (full some free)

    module _ (after : Board) (next : (who : Colour) (cell : ℕ) → IsEmpty after cell → Kept (put after who cell)) where
      -- ---- with a move more the player makes the move that answers some cell of the opponent's, and the opponent has
      -- no stone there

      without : (cell : ℕ) → IsAsGood larger larger (put after other cell) after
      without cell = as_good_less larger larger after after (as_good_itself larger after) other cell
          (λ e. absurd (other-differs player (sym e)))

      make_answer : (some : ℕ) (mover : Colour) → mover ≡ player → InReach (put after other some) mover → InReach after player
      make_answer some mover own (By_goal _ _ goal) = By_goal after player (stays (put after other some) after (without some).keeps goal)
      make_answer some mover own (By_move _ _ cell _ free win) =
          let here : IsFree larger after cell = ((free-put larger after other some cell).0 free).0 in
          By_move after player cell refl here
          ((next player cell here.empty).better larger (put (put after other some) player cell) other
          (as_good_both larger larger (put after other some) after (without some) player cell) win)
      make_answer some mover own (By_answers _ _ _ others _ _) = absurd (other-differs player (sym own ∙ others))

      move_more : (mover : Colour) → mover ≡ other → InReach after mover → InReach after player
      move_more mover others (By_goal _ _ goal) = By_goal after player goal
      move_more mover others (By_move _ _ _ own _ _) = absurd (other-differs player (sym own ∙ others))
      move_more mover others (By_answers _ _ some _ free all) = make_answer some player refl (all some free)

      -- ---- on the better board the player moves and answers as on the first

      module _ (region : ℕ → Bool) where
        better : (before : Board) (mover : Colour) → IsAsGood region larger before after → Plays player region Goal before mover
            → InReach after mover
        better before mover good (By_goal _ _ goal) = By_goal after mover (stays before after good.keeps goal)
        better before mover good (By_move _ _ cell own free win) = ⊎_elim
            (λ here. By_move after mover cell own here
            ((next player cell here.empty).better region (put before player cell) other
            (as_good_both region larger before after good player cell) win))
            (λ there. rw own (move_more other refl
            (better (put before player cell) other (as_good_less region larger before after good player cell (λ _. there)) win)))
            (good.free cell free)
        better before mover good (By_answers _ _ some others free all) = ⊎_elim
            (λ found. By_answers after mover found.0 others found.1 (λ cell here. answered cell here (is_free region before cell)))
            (λ full. By_goal after mover (goal_of_full after player full (better (put before other some) player lost (all some free))))
            (some_free_or_none larger after)
          where
            lost : IsAsGood region larger (put before other some) after
            lost = as_good_less region larger before after good other some (λ e. absurd (other-differs player (sym e)))

            -- a cell that was not free on the first board is a move of the opponent's wasted
            answered : (cell : ℕ) → IsFree larger after cell → Dec (IsFree region before cell) → InReach (put after other cell) player
            answered cell here (yes was) =
                (next other cell here.empty).better region (put before other cell) player
                (as_good_both region larger before after good other cell) (all cell was)
            answered cell here (no was_not) =
                (next other cell here.empty).move_more other refl
                ((next other cell here.empty).better region before other
                (as_good_more region larger before after good other cell (inr was_not)) (By_answers before other some refl free all))

    kept_of : (after : Board) → Ends after → Kept after
    kept_of after (After _ next) =
        let later : (who : Colour) (cell : ℕ) → IsEmpty after cell → Kept (put after who cell) = λ who cell empty.
        kept_of (put after who cell) (next who cell empty) in
        record { better = better after later; move_more = move_more after later }

    pub kept : (after : Board) → Kept after
    kept after = kept_of after (ends after)
