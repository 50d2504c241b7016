-- A board with the stones of one player alone is a position where the board is.
use Rattle.std.proofs.Common.{◌≡◌, ℕ, ap, ◌∙◌}
use Rattle.hx_board.specs.declared.colours.Colour.{Colour}
use Rattle.hx_board.specs.declared.colours.Colour.TheVariants.{Black, White}
use Rattle.hx_board.specs.Cells.{Extent}
use Rattle.hx_board.specs.Positions.{Board, IsPosition, stones_of}
use Rattle.hx_board.proofs.PositionLaws.{black-alone-is_position, white-alone-is_position}

-- the size, one player's stones and the empty set, as they were read
module _ (board : Board) (is : IsPosition board.size board.black board.white) (player : Colour) (size : Extent) (stones none : ℕ)
    (same_size : size ≡ board.size) (same_stones : stones ≡ stones_of board player) (empty : none ≡ 0) where
  pub black-alone : player ≡ Black → IsPosition size stones none
  black-alone is_black =
      let black : stones ≡ board.black = same_stones ∙ ap (stones_of board) is_black in
      rw (same_size, black, empty) (black-alone-is_position is)

  pub white-alone : player ≡ White → IsPosition size none stones
  white-alone is_white =
      let white : stones ≡ board.white = same_stones ∙ ap (stones_of board) is_white in
      rw (same_size, white, empty) (white-alone-is_position is)
