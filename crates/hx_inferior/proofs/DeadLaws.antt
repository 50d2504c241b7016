-- A cell is dead where it is empty and any two of a set are joined that has its open neighbours.
use Rattle.std.proofs.Common.{◌≡◌, ℕ}
use Rattle.hx_board.specs.declared.colours.Colour.{Colour}
use Rattle.hx_board.specs.declared.vertices.Vertex.TheVariants.{Of}
use Rattle.hx_board.specs.Positions.{Board, IsEmpty}
use Rattle.hx_board.specs.Graph.{IsVertex}
use Rattle.hx_board.specs.VertexSets.{IsSetOf, AreAllJoined}
use Rattle.hx_board.proofs.Joins.{touches-vertex}
use Rattle.hx_inferior.specs.Inferior.{IsOpenNeighbour, IsDead}

pub of_same : (n m : ℕ) → Of n ≡ Of m → n ≡ m
of_same n m e = cc

module _ (board : Board) (player : Colour) (cell around : ℕ)
    (is_around : IsSetOf board.size (IsOpenNeighbour board player cell) around) where
  pub all_joined-dead : IsEmpty board cell → AreAllJoined board player around → IsDead board player cell
  all_joined-dead empty all = record {
    empty = empty;
    joined = λ one other o p.
        let is_one : IsVertex board.size one = touches-vertex board.size player (Of cell) one o.touch in
        let is_other : IsVertex board.size other = touches-vertex board.size player (Of cell) other p.touch in
        all one other is_one is_other ((is_around.members one is_one).1 o) ((is_around.members other is_other).1 p);
  }

  pub dead-all_joined : IsDead board player cell → AreAllJoined board player around
  dead-all_joined dead = λ one other is_one is_other in_one in_other.
      dead.joined one other ((is_around.members one is_one).0 in_one) ((is_around.members other is_other).0 in_other)
