-- Exactly one player wins, by induction on the boards after one stone more. Some player does: on a full board the one
-- with a chain; else either some move leads to a win of the mover, or all lead to a win of the opponent. Not both do:
-- played against one another, two winning plays end in two chains.
use Rattle.std.proofs.Common.{◌≡◌, ℕ, refl, sym, ◌∙◌, ◌⊎◌, inl, inr, ⊎_elim}
use Rattle.std.proofs.Math.Logic.{⊎_swap}
use Rattle.hx_board.specs.declared.colours.Colour.{Colour}
use Rattle.hx_board.specs.declared.colours.Colour.TheVariants.{Black, White}
use Rattle.hx_board.specs.Colours.{other_of}
use Rattle.hx_board.specs.Positions.{Board, IsBoard, IsEmpty, put}
use Rattle.hx_board.specs.Graph.{HasChain}
use Rattle.hx_board.specs.Game.{Wins, By_chain, By_move, By_answers}
use Rattle.hx_law.specs.Laws.{OneWinner}
use Rattle.hx_board.proofs.ColourLaws.{other-other, other-differs, one_or_other}
use Rattle.hx_board.proofs.StoneLaws.{board-put}
use Rattle.hx_law.proofs.Ends.{Ends, After, ends, some_or_all, some_or_none}
use Rattle.hx_law.proofs.ChainLaws.{never_both, always_one}
use Rattle.hx_law.proofs.WinLaws.{chain-put}

-- what one of the two players has, told from either of them
from_player : (player : Colour) (P : Colour → Type 0) → P Black ⊎ P White → P player ⊎ P (other_of player)
from_player Black P one = one
from_player White P one = ⊎_swap one

to_player : (player : Colour) (P : Colour → Type 0) → P player ⊎ P (other_of player) → P Black ⊎ P White
to_player Black P one = one
to_player White P one = ⊎_swap one

-- ---- some player wins

by_a_move : (board : Board) (mover : Colour) → (cell : ℕ) × IsEmpty board cell
    → ((cell : ℕ) → IsEmpty board cell
    → Wins mover (put board mover cell) (other_of mover)
    ⊎ Wins (other_of mover) (put board mover cell) (other_of mover))
    → Wins mover board mover ⊎ Wins (other_of mover) board mover
by_a_move board mover some each = ⊎_elim
    (λ best. inl (By_move board mover best.0 refl best.1.0 best.1.1))
    (λ all. inr (By_answers board mover some.0 (sym (other-other mover)) some.1 (λ cell empty. rw (other-other mover) (all cell empty))))
    (some_or_all board
    (λ cell. Wins mover (put board mover cell) (other_of mover))
    (λ cell. Wins (other_of mover) (put board mover cell) (other_of mover)) each)

some_from : (board : Board) → Ends board → IsBoard board → (mover : Colour) → Wins Black board mover ⊎ Wins White board mover
some_from board (After _ next) is mover = ⊎_elim
    (λ some. to_player mover (λ player. Wins player board mover)
    (by_a_move board mover some (λ cell empty. from_player mover (λ player. Wins player (put board mover cell) (other_of mover))
    (some_from (put board mover cell) (next mover cell empty) (board-put board mover cell is empty) (other_of mover)))))
    (λ full. ⊎_elim (λ chain. inl (By_chain board mover chain)) (λ chain. inr (By_chain board mover chain)) (always_one board is full))
    (some_or_none board)

-- ---- not both win

-- one move of the player's winning play against the opponent's; `later` tells that they do not both win after it
module _ (board : Board) (is : IsBoard board) (own other : Colour) (opponent : other ≡ other_of own) (back : own ≡ other_of other)
    (later : (cell : ℕ) → IsEmpty board cell → Wins own (put board own cell) other → Wins other (put board own cell) other → ⊥) where
  not_both_chains : (player : Colour) → HasChain board player → HasChain board (other_of player) → ⊥
  not_both_chains Black chain theirs = never_both board is (chain, theirs)
  not_both_chains White chain theirs = never_both board is (theirs, chain)

  not_both_move : Wins own board own → Wins other board own → ⊥
  not_both_move (By_chain _ _ chain) (By_chain _ _ theirs) = not_both_chains own chain (rw opponent at theirs)
  not_both_move (By_chain _ _ chain) (By_answers _ _ some _ empty all) =
      later some empty (By_chain (put board own some) other (chain-put own board own some chain))
      (rw back (all some empty))
  not_both_move (By_move _ _ cell _ empty win) (By_chain _ _ theirs) =
      later cell empty (rw opponent win)
      (By_chain (put board own cell) other (chain-put other board own cell theirs))
  not_both_move (By_move _ _ cell _ empty win) (By_answers _ _ _ _ _ all) = later cell empty (rw opponent win) (rw back (all cell empty))
  not_both_move (By_answers _ _ _ own_move _ _) _ = other-differs own own_move
  not_both_move _ (By_move _ _ _ others_move _ _) = other-differs own (others_move ∙ opponent)

not_both_from : (board : Board) → Ends board → IsBoard board → (own other : Colour) → other ≡ other_of own
    → own ≡ other_of other → Wins own board own → Wins other board own → ⊥
not_both_from board (After _ next) is own other opponent back =
    not_both_move board is own other opponent back
    (λ cell empty win theirs.
    not_both_from (put board own cell) (next own cell empty) (board-put board own cell is empty)
    other own back opponent theirs win)

pub not_both_win : (board : Board) → IsBoard board → (player mover : Colour) → Wins player board mover
    → Wins (other_of player) board mover → ⊥
not_both_win board is player mover win theirs = ⊎_elim
    (λ own. not_both_from board (ends board) is player (other_of player) refl (sym (other-other player)) (rw own at win) (rw own at theirs))
    (λ others. not_both_from board (ends board) is (other_of player) player (sym (other-other player)) refl
    (rw others at theirs) (rw others at win))
    (one_or_other mover player)

pub one_winner : (board : Board) → IsBoard board → (mover : Colour) → OneWinner board mover
one_winner board is mover = record {
  some = some_from board (ends board) is mover;
  not_both = λ both. not_both_win board is Black mover both.0 both.1;
}
