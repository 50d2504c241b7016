-- Both cells of a pair may count as the player's own. By induction on the play on the board with both: the player plays
-- as there, and where the opponent takes one cell of the pair, the player takes the other. Then the opponent's stone is
-- on a dead cell, where its colour does not matter. With a chain already, one cell of the pair is enough for it.
use Rattle.std.proofs.Common.{◌≡◌, ◌≢◌, ℕ, refl, sym, ap, ◌∙◌, subst, ⊎_elim}
use Rattle.std.proofs.Math.Decide.{ℕ_discrete}
use Rattle.hx_board.specs.declared.colours.Colour.{Colour}
use Rattle.hx_board.specs.Colours.{other_of}
use Rattle.hx_board.specs.Positions.{Board, IsBoard, IsEmpty, put}
use Rattle.hx_board.specs.Graph.{HasChain}
use Rattle.hx_board.specs.Game.{Wins, By_chain, By_move, By_answers}
use Rattle.hx_board.proofs.ColourLaws.{one_or_other}
use Rattle.hx_board.proofs.StoneLaws.{board-put, empty-put}
use Rattle.hx_law.proofs.WinLaws.{chain-put}
use Rattle.hx_inferior.specs.Inferior.{IsDead, IsPair}
use Rattle.hx_inferior.proofs.PairLaws.{pair-a_empty, pair-b_empty, pair-differ}
use Rattle.hx_proof.proofs.StoneOrder.{put-swap, put-before_two}
use Rattle.hx_proof.proofs.DeadSoundness.{chain_without_dead, dead_stays, wins_with_others_stone_on_dead}

module _ (player : Colour) where
  abbrev other : Colour
  other = other_of player

  pair-sym : (board : Board) (a b : ℕ) → IsPair board player a b → IsPair board player b a
  pair-sym board a b pair = record { a_dead = pair.b_dead; b_dead = pair.a_dead }

  pair_stays : (board : Board) (who : Colour) (m a b : ℕ) → m ≢ a → m ≢ b → IsPair board player a b → IsPair (put board who m) player a b
  pair_stays board who m a b not_a not_b pair = record {
    a_dead = subst (λ (z : Board). IsDead z player a) (put-swap board player who b m)
        (dead_stays (put board player b) player who m a (λ e. not_a (sym e)) pair.a_dead);
    b_dead = subst (λ (z : Board). IsDead z player b) (put-swap board player who a m)
        (dead_stays (put board player a) player who m b (λ e. not_b (sym e)) pair.b_dead);
  }

  -- ---- a chain with both cells

  chain_with_one : (board after : Board) (a b : ℕ) → IsBoard board → IsPair board player a b → after ≡ put (put board player a) player b
      → HasChain after player → HasChain (put board player a) player
  chain_with_one board after a b is pair same chain =
      chain_without_dead (put board player a) player b (board-put board player a is (pair-a_empty board player a b pair))
      pair.b_dead (rw same at chain)

  -- after a stone of the opponent's elsewhere the player makes the chain
  wins_by_one : (board : Board) (m a : ℕ) → m ≢ a → IsEmpty board a → HasChain (put board player a) player
      → Wins player (put board other m) player
  wins_by_one board m a differ empty chain =
      By_move (put board other m) player a refl ((empty-put board other m a).1 (empty, λ e. differ (sym e)))
      (By_chain (put (put board other m) player a) other
      (subst (λ (z : Board). HasChain z player) (put-swap board player other a m)
      (chain-put player (put board player a) other m chain)))

  -- ---- the opponent takes one cell of the pair, and the player the other

  wins_by_other_cell : (board after : Board) (a b : ℕ) → IsBoard board → IsPair board player a b → after ≡ put (put board player b) player a
      → Wins player after other → Wins player (put board other a) player
  wins_by_other_cell board after a b is pair same win =
      By_move (put board other a) player b refl
      ((empty-put board other a b).1 (pair-b_empty board player a b pair, λ e. pair-differ board player a b pair (sym e)))
      (subst (λ (z : Board). Wins player z other) (put-swap board player other b a)
      (wins_with_others_stone_on_dead player (put board player b) after other a
      (board-put board player b is (pair-b_empty board player a b pair)) pair.a_dead same win))

  -- with that answer, the opponent's moves elsewhere are left
  wins_after_each : (board after : Board) (a b : ℕ) → IsBoard board → IsPair board player a b → after ≡ put (put board player a) player b
      → Wins player after other
      → ((m : ℕ) → IsEmpty board m → m ≢ a → m ≢ b → Wins player (put board other m) player) → (m : ℕ) → IsEmpty board m
      → Wins player (put board other m) player
  wins_after_each board after a b is pair same win elsewhere m empty = answer (ℕ_discrete m a) (ℕ_discrete m b)
    where
      answer : Dec (m ≡ a) → Dec (m ≡ b) → Wins player (put board other m) player
      answer (yes is_a) _ = rw is_a (wins_by_other_cell board after a b is pair (same ∙ put-swap board player player a b) win)
      answer (no _) (yes is_b) = rw is_b (wins_by_other_cell board after b a is (pair-sym board a b pair) same win)
      answer (no not_a) (no not_b) = elsewhere m empty not_a not_b

  -- ---- who wins with both cells wins

  pub wins_without_pair : (board after : Board) (mover : Colour) (a b : ℕ) → IsBoard board → IsPair board player a b
      → after ≡ put (put board player a) player b
      → Wins player after mover → Wins player board mover
  wins_without_pair board after mover a b is pair same (By_chain _ _ chain) =
      let with_one : HasChain (put board player a) player = chain_with_one board after a b is pair same chain in
      let empty : IsEmpty board a = pair-a_empty board player a b pair in
      ⊎_elim
      (λ own. By_move board mover a own empty (By_chain (put board player a) other with_one))
      (λ others. By_answers board mover a others empty
      (wins_after_each board after a b is pair same (By_chain after other chain)
      (λ m _ not_a _. wins_by_one board m a not_a empty with_one)))
      (one_or_other mover player)
  wins_without_pair board after mover a b is pair same (By_move _ _ m own empty win) =
      let not_b : IsEmpty (put board player a) m × (m ≢ b) = (empty-put (put board player a) player b m).0 (rw same at empty) in
      let not_a : IsEmpty board m × (m ≢ a) = (empty-put board player a m).0 not_b.0 in
      By_move board mover m own not_a.0
      (wins_without_pair (put board player m) (put after player m) other a b (board-put board player m is not_a.0)
      (pair_stays board player m a b not_a.1 not_b.1 pair)
      (ap (λ (z : Board). put z player m) same ∙ put-before_two board player player a b m) win)
  wins_without_pair board after mover a b is pair same (By_answers _ _ some others empty all) =
      By_answers board mover a others (pair-a_empty board player a b pair)
      (wins_after_each board after a b is pair same (By_answers after other some refl empty all) (λ m here not_a not_b.
      wins_without_pair (put board other m) (put after other m) player a b (board-put board other m is here)
      (pair_stays board other m a b not_a not_b pair)
      (ap (λ (z : Board). put z other m) same ∙ put-before_two board player other a b m)
      (all m (rw same ((empty-put (put board player a) player b m).1 ((empty-put board player a m).1 (here, not_a), not_b))))))
