-- Two keys of a position and mover: one of the position as it stands, and one that the turned position has too. Both
-- differ between most positions and movers.
--
-- They are exact, for the prover must know that equal positions and movers have equal keys, and so equal buckets in
-- a book. No contract of a book speaks of them. Whoever has one orientation alone can use the folded key: a book
-- does, and the position is turned only where it has no entry.
use Rattle.std.specs.Prelude.{ℕ, ◌*◌, ◌/◌, ◌%◌, ◌^◌, nat_le, bit_xor, if◌then◌else◌}
use Rattle.hx_board.specs.declared.colours.Colour.{Colour}
use Rattle.hx_board.specs.declared.colours.Colour.TheVariants.{Black, White}
use Rattle.hx_board.specs.Positions.{Board}
use Rattle.hx_turn.specs.TurnedStones.{turned_of}

-- the upper half of the product of two numbers below 2^64, with the lower half laid over it
unfoldable pub folded : ℕ → ℕ → ℕ
folded a b = bit_xor (a * b / 2 ^ 64) (a * b % 2 ^ 64)

-- the two halves of a set, each mixed with a salt
unfoldable pub folded_set : ℕ → ℕ → ℕ → ℕ
folded_set set low_salt high_salt =
    folded (bit_xor (set % 2 ^ 64) low_salt) (bit_xor (set / 2 ^ 64) high_salt)

abbrev pub mover_salt : Colour → ℕ
mover_salt Black = 13287129219935123339
mover_salt White = 5871781006564002453

-- the stones of both players and the mover, folded into one key
unfoldable pub folded_key : Board → Colour → ℕ
folded_key board mover = folded
    (bit_xor (folded_set board.black 11400714819323198485 14029467366897019727) (mover_salt mover))
    (bit_xor (folded_set board.white 1609587929392839161 9650029242287828579) 2870177450012600261)

abbrev pub lesser : ℕ → ℕ → ℕ
lesser a b = if nat_le a b then a else b

-- the lesser of the folded keys of the board and of the turned one
abbrev pub key_of : Board → Colour → ℕ
key_of board mover = lesser (folded_key board mover) (folded_key (turned_of board) mover)
