-- Who wins wins the turned board: the same moves, turned, on boards that mirror each other.
use Rattle.std.proofs.Common.{ℕ, subst}
use Rattle.hx_board.specs.declared.colours.Colour.{Colour}
use Rattle.hx_board.specs.declared.vertices.Vertex.TheVariants.{First, Last}
use Rattle.hx_board.specs.Colours.{other_of}
use Rattle.hx_board.specs.Cells.{Extent, OnBoard}
use Rattle.hx_board.specs.Positions.{Board, IsBoard, IsEmpty, put}
use Rattle.hx_board.specs.Game.{Wins, By_chain, By_move, By_answers}
use Rattle.hx_board.proofs.Joins.{joined-sym}
use Rattle.hx_turn.specs.Turned.{turned_cell, IsTurned, KeepsWinner}
use Rattle.hx_turn.proofs.TurnedCells.{on_board-turned, turned-turned}
use Rattle.hx_turn.proofs.TurnedBoards.{Mirrors, exchanged, turned-mirrors, empty-turned, put-mirrors}
use Rattle.hx_turn.proofs.TurnedGraphs.{joined-turned}

module _ (size : Extent) (player : Colour) where
  empty-on : (board turned : Board) → Mirrors size board turned → (cell : ℕ) → IsEmpty board cell → OnBoard size cell
  empty-on board turned m cell empty = let P : Extent → Type 0 = λ s. OnBoard s cell in subst P m.board_size empty.on_board

  -- an empty cell of the turned board is the turned cell of an empty one
  answered : (board turned : Board) → Mirrors size board turned → (who : Colour) (cell : ℕ) → IsEmpty turned cell
      → Mirrors size (put board who (turned_cell size cell)) (put turned who cell)
  answered board turned m who cell empty =
      let here : OnBoard size cell = empty-on turned board (exchanged size board turned m) cell empty in
      let more = put-mirrors size board turned m who (turned_cell size cell) (on_board-turned size m.extent cell here) in
      let P : ℕ → Type 0 = λ n. Mirrors size (put board who (turned_cell size cell)) (put turned who n) in
      subst P (turned-turned size m.extent cell here) more

  pub wins-turned : (board turned : Board) (mover : Colour) → Mirrors size board turned → Wins player board mover → Wins player turned mover
  wins-turned board turned mover m (By_chain _ _ chain) =
      By_chain turned mover (joined-sym turned player Last First (joined-turned size player board turned m First Last chain))
  wins-turned board turned mover m (By_move _ _ cell own empty win) =
      By_move turned mover (turned_cell size cell) own (empty-turned size board turned m cell empty)
      (wins-turned (put board player cell) (put turned player (turned_cell size cell)) (other_of player)
      (put-mirrors size board turned m player cell (empty-on board turned m cell empty)) win)
  wins-turned board turned mover m (By_answers _ _ some others empty all) =
      By_answers turned mover (turned_cell size some) others (empty-turned size board turned m some empty)
      (λ cell free. wins-turned (put board (other_of player) (turned_cell size cell)) (put turned (other_of player) cell) player
      (answered board turned m (other_of player) cell free)
      (all (turned_cell size cell) (empty-turned size turned board (exchanged size board turned m) cell free)))

pub keeps_winner : (board : Board) (mover player : Colour) (turned : Board) → IsBoard board → IsTurned board turned
    → KeepsWinner board mover player turned
keeps_winner board mover player turned is turn =
    let m = turned-mirrors board turned is turn in (
      wins-turned board.size player board turned mover m,
      wins-turned board.size player turned board mover (exchanged board.size board turned m),
    )
