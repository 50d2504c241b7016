-- The boards that play in a carrier leads to, and the number of each in base three.
--
-- A played cell stays in the carrier, and the free cells are those of it that are empty. To take it out would come to
-- the same, and would want a lemma at each move.
use Rattle.std.specs.Prelude.{◌≡◌, ℕ, zero, suc, ◌+◌, ◌*◌, ◌^◌, Bool, true, false, if◌then◌else◌}
use Rattle.hx_board.specs.declared.colours.Colour.{Colour}
use Rattle.hx_board.specs.Colours.{other_of}
use Rattle.hx_board.specs.Positions.{Board, IsBoard, stones_of}
use Rattle.hx_board.specs.Sets.{has, count_below}

-- the board has the stones of the one on which play began, and others on the cells of the carrier alone
pub record IsFilling (start : Board) (carrier : ℕ) (board : Board) : Type 0 where
  pub valid : IsBoard board
  pub size : board.size ≡ start.size
  pub keeps : (player : Colour) (n : ℕ) → has (stones_of start player) n ≡ true
      → has (stones_of board player) n ≡ true
  pub outside : (player : Colour) (n : ℕ) → has carrier n ≡ false
      → has (stones_of board player) n ≡ has (stones_of start player) n

-- What the digit of a cell adds: nothing where it is empty, what it counts for a stone of the player, twice that for a
-- stone of the opponent.
abbrev pub worth : Bool → Bool → ℕ → ℕ
worth true others weight = weight
worth false true weight = 2 * weight
worth false false weight = 0

-- The number that the cells of the carrier below a bound make, the first cell the lowest digit. A digit counts as many
-- as there are fillings of the cells below it.
unfoldable pub number_below : ℕ → Colour → ℕ → Board → ℕ
number_below zero player carrier board = 0
number_below (suc n) player carrier board =
    (if has carrier n
    then worth (has (stones_of board player) n) (has (stones_of board (other_of player)) n) (3 ^ count_below n carrier)
    else 0)
    + number_below n player carrier board

abbrev pub number_of : Colour → ℕ → Board → ℕ
number_of player carrier board = number_below 121 player carrier board
