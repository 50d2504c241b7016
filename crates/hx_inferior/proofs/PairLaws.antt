-- The cells of a pair, and a dominated cell, are empty and differ from the cell that the player takes: a cell that is
-- dead once a stone is there is empty then, and so it was empty before, and is another one.
use Rattle.std.proofs.Common.{◌≢◌, ℕ}
use Rattle.hx_board.specs.declared.colours.Colour.{Colour}
use Rattle.hx_board.specs.Positions.{Board, IsEmpty, put}
use Rattle.hx_board.proofs.StoneLaws.{empty-put}
use Rattle.hx_inferior.specs.declared.dominations.Kill.{Kill}
use Rattle.hx_inferior.specs.declared.dominations.Kill.TheVariants.{ByDead, ByPair}
use Rattle.hx_inferior.specs.Inferior.{IsPair, IsKilled, IsDominated}

pub pair-a_empty : (board : Board) (player : Colour) (a b : ℕ) → IsPair board player a b → IsEmpty board a
pair-a_empty board player a b pair = ((empty-put board player b a).0 pair.a_dead.empty).0

pub pair-b_empty : (board : Board) (player : Colour) (a b : ℕ) → IsPair board player a b → IsEmpty board b
pair-b_empty board player a b pair = ((empty-put board player a b).0 pair.b_dead.empty).0

pub pair-differ : (board : Board) (player : Colour) (a b : ℕ) → IsPair board player a b → a ≢ b
pair-differ board player a b pair = ((empty-put board player b a).0 pair.a_dead.empty).1

killed-empty : (board : Board) (mover : Colour) (worse : ℕ) (kill : Kill) → IsKilled board mover worse kill → IsEmpty board worse
killed-empty board mover worse ByDead dead = dead.empty
killed-empty board mover worse (ByPair partner) pair = pair-a_empty board mover worse partner pair

-- the worse cell is empty, and is not the better one
pub dominated-worse : (board : Board) (mover : Colour) (better worse : ℕ) (kill : Kill) → IsDominated board mover better worse kill
    → IsEmpty board worse × (worse ≢ better)
dominated-worse board mover better worse kill dominated =
    (empty-put board mover better worse).0 (killed-empty (put board mover better) mover worse kill dominated.killed)
