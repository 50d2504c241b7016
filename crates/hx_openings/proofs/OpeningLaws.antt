-- The turned opening is the opening on the turned cell, since the empty board is its own turned board. And Black's best
-- move is an opening; where Black had a chain without a move, any opening would do.
use Rattle.std.proofs.Common.{◌≡◌, ℕ, true, refl, sym, ◌∙◌, arith}
use Rattle.std.proofs.lemmas.Bool.{false≢true}
use Rattle.hx_board.specs.declared.colours.Colour.{Colour}
use Rattle.hx_board.specs.declared.colours.Colour.TheVariants.{Black, White}
use Rattle.hx_board.specs.Sets.{has}
use Rattle.hx_board.specs.Cells.{Extent, IsExtent, OnBoard}
use Rattle.hx_board.specs.Positions.{IsBoard, IsEmpty, stones_of}
use Rattle.hx_board.specs.Game.{Wins, By_chain, By_move, By_answers}
use Rattle.hx_board.proofs.SetLaws.{has-empty}
use Rattle.hx_law.proofs.WinLaws.{chain-put}
use Rattle.hx_turn.specs.Turned.{turned_cell}
use Rattle.hx_turn.proofs.TurnedBoards.{Mirrors, exchanged, put-mirrors}
use Rattle.hx_turn.proofs.TurnedGames.{wins-turned}
use Rattle.hx_openings.specs.Openings.{empty_board, opening, WinsOpening, HaveOneWinner, IsWonByAnOpening}

module _ (size : Extent) (extent : IsExtent size.rows size.cols) where
  no_stone : (player : Colour) (cell : ℕ) → has (stones_of (empty_board size) player) cell ≡ true → ⊥
  no_stone Black cell h = false≢true (sym (has-empty cell) ∙ h)
  no_stone White cell h = false≢true (sym (has-empty cell) ∙ h)

  pub empty_is_board : IsBoard (empty_board size)
  empty_is_board = (
    extent,
    record {
      apart = λ cell h. absurd (no_stone Black cell h);
      black_inside = λ cell h. absurd (no_stone Black cell h);
      white_inside = λ cell h. absurd (no_stone White cell h);
    },
  )

  mirrors_itself : Mirrors size (empty_board size) (empty_board size)
  mirrors_itself = record {
    extent = extent;
    board_size = refl;
    turned_size = refl;
    there = λ player cell on h. absurd (no_stone player cell h);
    back = λ player cell on h. absurd (no_stone player cell h);
  }

  opening_mirrors : (cell : ℕ) → OnBoard size cell → Mirrors size (opening size cell) (opening size (turned_cell size cell))
  opening_mirrors cell on = put-mirrors size (empty_board size) (empty_board size) mirrors_itself Black cell on

  pub turned_has_the_winner : (cell : ℕ) → OnBoard size cell → HaveOneWinner size cell
  turned_has_the_winner cell on player = (
    wins-turned size player (opening size cell) (opening size (turned_cell size cell)) White (opening_mirrors cell on),
    wins-turned size player (opening size (turned_cell size cell)) (opening size cell) White
        (exchanged size (opening size cell) (opening size (turned_cell size cell)) (opening_mirrors cell on)),
  )

  pub all_empty : (cell : ℕ) → OnBoard size cell → IsEmpty (empty_board size) cell
  all_empty cell on = record { on_board = on; no_black = has-empty cell; no_white = has-empty cell }

  corner : OnBoard size 0
  corner = record { row = omega (arith, extent.0); col = omega (arith, extent.2) }

  best : (mover : Colour) → mover ≡ Black → Wins Black (empty_board size) mover
      → (cell : ℕ) × OnBoard size cell × WinsOpening size cell Black
  best mover is (By_chain _ _ chain) = (0, corner, By_chain (opening size 0) White (chain-put Black (empty_board size) Black 0 chain))
  best mover is (By_move _ _ cell _ empty win) = (cell, empty.on_board, win)
  best mover is (By_answers _ _ _ others _ _) = let e : White ≡ Black = sym others ∙ is in absurd cc

  pub won_by_an_opening : IsWonByAnOpening size
  won_by_an_opening = (best Black refl, (λ w. By_move (empty_board size) Black w.0 refl (all_empty w.0 w.1) w.2))
