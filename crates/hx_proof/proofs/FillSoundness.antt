-- Who wins after a fill step wins before it. Take a stone of the opponent's away: if the opponent won without it, then
-- with it too, and both would win. A dead cell may have the opponent's stone as well, which is then taken away. A pair
-- may count as the player's own. So who wins after fill steps one after the other wins before them, by induction on the
-- steps.
use Rattle.std.proofs.Common.{ℕ, List, [], ◌∷◌, refl, ◌⊎◌, ⊎_elim}
use Rattle.std.proofs.Math.Logic.{⊎_swap}
use Rattle.hx_board.specs.declared.colours.Colour.{Colour}
use Rattle.hx_board.specs.declared.colours.Colour.TheVariants.{Black, White}
use Rattle.hx_board.specs.Colours.{other_of}
use Rattle.hx_board.specs.Positions.{Board, IsBoard, IsEmpty, put}
use Rattle.hx_board.specs.Game.{Wins}
use Rattle.hx_board.proofs.StoneLaws.{board-put}
use Rattle.hx_law.proofs.WinLaws.{extra_stone}
use Rattle.hx_law.proofs.OneWinner.{not_both_win, one_winner}
use Rattle.hx_inferior.specs.declared.fills.FillStep.{FillStep}
use Rattle.hx_inferior.specs.declared.fills.FillStep.TheVariants.{Other, Dead, Pair}
use Rattle.hx_inferior.specs.Inferior.{MayFill, filled}
use Rattle.hx_tree.specs.Fills.{MayFillAll, filled_all}
use Rattle.hx_tree.proofs.FilledBoards.{board-filled}
use Rattle.hx_proof.proofs.DeadSoundness.{wins_with_others_stone_on_dead}
use Rattle.hx_proof.proofs.PairSoundness.{wins_without_pair}

pub one_wins : (board : Board) → IsBoard board → (player mover : Colour) → Wins player board mover ⊎ Wins (other_of player) board mover
one_wins board is Black mover = (one_winner board is mover).some
one_wins board is White mover = ⊎_swap (one_winner board is mover).some

pub wins_without_others_stone : (player : Colour) (board : Board) → IsBoard board → (cell : ℕ) → IsEmpty board cell → (mover : Colour)
    → Wins player (put board (other_of player) cell) mover
    → Wins player board mover
wins_without_others_stone player board is cell empty mover win = ⊎_elim
    (λ own. own)
    (λ theirs. absurd (not_both_win (put board (other_of player) cell) (board-put board (other_of player) cell is empty) player mover win
    (extra_stone (other_of player) board mover cell theirs)))
    (one_wins board is player mover)

pub fill_wins : (board : Board) → IsBoard board → (player : Colour) (step : FillStep) → MayFill board player step → (mover : Colour)
    → Wins player (filled board player step) mover → Wins player board mover
fill_wins board is player (Other cell) empty mover win = wins_without_others_stone player board is cell empty mover win
fill_wins board is player (Dead cell) dead mover win =
    wins_without_others_stone player board is cell dead.empty mover
    (wins_with_others_stone_on_dead player board (put board player cell) mover cell is dead refl win)
fill_wins board is player (Pair a b) pair mover win =
    wins_without_pair player board (put (put board player a) player b) mover a b is pair refl win

pub fills_win : (board : Board) → IsBoard board → (player : Colour) (steps : List FillStep) → MayFillAll board player steps
    → (mover : Colour) → Wins player (filled_all board player steps) mover
    → Wins player board mover
fills_win board is player [] may mover win = win
fills_win board is player (step ∷ steps) may mover win =
    fill_wins board is player step may.0 mover
    (fills_win (filled board player step) (board-filled board player is step may.0) player steps may.1 mover win)
