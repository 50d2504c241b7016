-- Who wins a position where no player has a chain yet. The mover does by a move with which he wins. Where each of his
-- moves is refuted, the opponent does: some cell is empty, since on a full board one player has a chain. And the other
-- way round: who wins with the opponent to move wins after each of his moves, and of who wins with the move not each
-- move is refuted, since not both players win.
use Rattle.std.proofs.Common.{◌≡◌, ℕ, refl, sym, ◌∙◌, ⊎_elim}
use Rattle.hx_board.specs.declared.colours.Colour.{Colour}
use Rattle.hx_board.specs.declared.colours.Colour.TheVariants.{Black, White}
use Rattle.hx_board.specs.Colours.{other_of}
use Rattle.hx_board.specs.Positions.{Board, IsBoard, IsEmpty, put}
use Rattle.hx_board.specs.Graph.{HasChain}
use Rattle.hx_board.specs.Game.{Wins, By_chain, By_move, By_answers}
use Rattle.hx_board.proofs.StoneLaws.{board-put}
use Rattle.hx_board.proofs.ColourLaws.{other-other, other-differs}
use Rattle.hx_law.proofs.Ends.{some_or_none}
use Rattle.hx_law.proofs.ChainLaws.{always_one}
use Rattle.hx_law.proofs.OneWinner.{not_both_win}
use Rattle.hx_sweep.specs.Tries.{IsRefuted, IsFirstWinningMove}

pub move_wins : (board : Board) (mover : Colour) (cell : ℕ) → IsFirstWinningMove board mover cell → Wins mover board mover
move_wins board mover cell best = By_move board mover cell refl best.empty best.wins

pub refuted_all : (board : Board) (mover : Colour) → IsBoard board → ¬ HasChain board Black → ¬ HasChain board White
    → ((cell : ℕ) → IsEmpty board cell → IsRefuted board mover cell) → Wins (other_of mover) board mover
refuted_all board mover is black white refuted = ⊎_elim
    (λ some. By_answers board mover some.0 (sym (other-other mover)) some.1 (λ cell empty. rw (other-other mover) (refuted cell empty)))
    (λ full. absurd (⊎_elim black white (always_one board is full)))
    (some_or_none board)

-- the winner has an answer to each move, and there is a move
pub record IsAnswered (board : Board) (winner : Colour) : Type 0 where
  pub some : ℕ
  pub some_empty : IsEmpty board some
  pub all : (cell : ℕ) → IsEmpty board cell → Wins winner (put board (other_of winner) cell) winner

pub answers_all : (board : Board) (winner mover : Colour) → mover ≡ other_of winner → ¬ HasChain board winner → Wins winner board mover
    → IsAnswered board winner
answers_all board winner mover others none (By_chain _ _ chain) = absurd (none chain)
answers_all board winner mover others none (By_move _ _ _ own _ _) = absurd (other-differs winner (sym own ∙ others))
answers_all board winner mover others none (By_answers _ _ some _ empty all) = record { some = some; some_empty = empty; all = all }

pub not_all_refuted : (board : Board) (winner mover : Colour) → mover ≡ winner → IsBoard board → ¬ HasChain board winner
    → Wins winner board mover
    → ((cell : ℕ) → IsEmpty board cell → IsRefuted board winner cell) → ⊥
not_all_refuted board winner mover own is none (By_chain _ _ chain) refuted = none chain
not_all_refuted board winner mover own is none (By_move _ _ cell _ empty wins) refuted =
    not_both_win (put board winner cell) (board-put board winner cell is empty) winner (other_of winner) wins (refuted cell empty)
not_all_refuted board winner mover own is none (By_answers _ _ _ others _ _) refuted = other-differs winner (sym own ∙ others)
