-- Dead cells, captured pairs, fill steps, and cells that another one is better than.
use Rattle.std.specs.Prelude.{ℕ}
use Rattle.hx_board.specs.declared.colours.Colour.{Colour}
use Rattle.hx_board.specs.declared.vertices.Vertex.{Vertex}
use Rattle.hx_board.specs.declared.vertices.Vertex.TheVariants.{Of}
use Rattle.hx_board.specs.Colours.{other_of}
use Rattle.hx_board.specs.Positions.{Board, IsEmpty, put}
use Rattle.hx_board.specs.Graph.{IsOpen, Touches, Joined}
use Rattle.hx_inferior.specs.declared.fills.FillStep.{FillStep}
use Rattle.hx_inferior.specs.declared.fills.FillStep.TheVariants.{Other, Dead, Pair}
use Rattle.hx_inferior.specs.declared.dominations.Kill.{Kill}
use Rattle.hx_inferior.specs.declared.dominations.Kill.TheVariants.{ByDead, ByPair}

-- a neighbour of a cell in the player's graph, a cell or a side, that is no stone of the opponent
pub record IsOpenNeighbour (board : Board) (player : Colour) (cell : ℕ) (vertex : Vertex) : Type 0 where
  pub touch : Touches board.size player (Of cell) vertex
  pub is_open : IsOpen board player vertex

-- an empty cell of which any two open neighbours are joined without it
pub record IsDead (board : Board) (player : Colour) (cell : ℕ) : Type 0 where
  pub empty : IsEmpty board cell
  pub joined : (one other : Vertex) → IsOpenNeighbour board player cell one → IsOpenNeighbour board player cell other
      → Joined board player one other

-- two cells, each of which is dead once the player has the other, and so two empty ones
pub record IsPair (board : Board) (player : Colour) (a b : ℕ) : Type 0 where
  pub a_dead : IsDead (put board player b) player a
  pub b_dead : IsDead (put board player a) player b

-- the cells may be filled so for this winner
abbrev pub MayFill : Board → Colour → FillStep → Type 0
MayFill board winner (Other cell) = IsEmpty board cell
MayFill board winner (Dead cell) = IsDead board winner cell
MayFill board winner (Pair a b) = IsPair board winner a b

-- the board after a fill step
abbrev pub filled : Board → Colour → FillStep → Board
filled board winner (Other cell) = put board (other_of winner) cell
filled board winner (Dead cell) = put board winner cell
filled board winner (Pair a b) = put (put board winner a) winner b

-- once the mover has the better cell, the worse one is dead for the opponent, or one of a pair of the mover
abbrev pub IsKilled : Board → Colour → ℕ → Kill → Type 0
IsKilled board mover worse ByDead = IsDead board (other_of mover) worse
IsKilled board mover worse (ByPair partner) = IsPair board mover worse partner

-- of two cells the mover loses nothing by taking the better one, which is empty, as the worse one is then too
pub record IsDominated (board : Board) (mover : Colour) (better worse : ℕ) (kill : Kill) : Type 0 where
  pub better_empty : IsEmpty board better
  pub killed : IsKilled (put board mover better) mover worse kill
