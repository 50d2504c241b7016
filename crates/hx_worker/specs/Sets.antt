-- Sets of links at a position.
use Rattle.std.specs.Prelude.{◌≡◌}
use Rattle.hx_board.specs.declared.colours.Colour.TheVariants.{Black, White}
use Rattle.hx_board.specs.Positions.{Board}
use Rattle.hx_linkset.specs.States.{Standing}

-- the sets of the two players, both on this board
pub record AreOn (board : Board) (black white : Standing) : Type 0 where
  pub black_player : black.player ≡ Black
  pub white_player : white.player ≡ White
  pub black_board : black.present.board ≡ board
  pub white_board : white.present.board ≡ board
