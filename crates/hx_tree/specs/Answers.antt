-- When each move of the opponent's is answered that a node has to answer.
use Rattle.std.specs.Prelude.{ℕ, true, false, List, map, slice_get, IsSomeAnd, IfSome, Contains, ◌≡◌, ◌⊎◌}
use Rattle.std.specs.List.{All}
use Rattle.std.specs.List.Sorted.{IsStrictlyIncreasing}
use Rattle.hx_board.specs.Colours.{other_of}
use Rattle.hx_board.specs.Sets.{has}
use Rattle.hx_board.specs.Positions.{Board, IsEmpty, put}
use Rattle.hx_inferior.specs.Inferior.{IsDominated}
use Rattle.hx_link.specs.declared.links.Link.{Link}
use Rattle.hx_link.specs.declared.steps.Step.{Step}
use Rattle.hx_tree.specs.declared.nodes.Heading.{Heading}
use Rattle.hx_tree.specs.declared.nodes.Line.{Line}
use Rattle.hx_tree.specs.declared.nodes.Line.TheVariants.{Child, Under}
use Rattle.hx_tree.specs.Headings.{Leads}
use Rattle.hx_tree.specs.Steps.{GiveLinks, AreThreats}

-- the cell that a line answers
abbrev pub cell_of : Line → ℕ
cell_of (Child cell child) = cell
cell_of (Under cell better kill) = cell

-- the cells of which the fact holds, each once and in cell order
pub record AreInOrder (Fact : ℕ → Type 0) (cells : List ℕ) : Type 0 where
  pub each : (cell : ℕ) → Fact cell → Contains cells cell
  pub only : All Fact cells
  pub in_order : IsStrictlyIncreasing cells

-- an empty cell in the carriers of all threats, and so any empty cell where there is no threat
pub record IsToAnswer (board : Board) (links : List Link) (threats : List ℕ) (cell : ℕ) : Type 0 where
  pub empty : IsEmpty board cell
  pub shared : (k : ℕ) → IfSome (slice_get threats k)
      (λ place. IsSomeAnd (slice_get links place) (λ link. has link.carrier cell ≡ true))

-- after the opponent's move to the cell the winner wins by an earlier heading; or a better cell dominates it, which has
-- a line with a child or is outside the carrier of some threat
abbrev pub IsRightLine : List Heading → Heading → List Link → List ℕ → List Line → Line → Type 0
IsRightLine before heading links threats lines (Child cell child) =
    Leads before child (put heading.position (other_of heading.winner) cell) heading.winner heading.winner
IsRightLine before heading links threats lines (Under cell better kill) =
    IsDominated heading.position (other_of heading.winner) better cell kill
    × (((child : ℕ) × Contains lines (Child better child))
    ⊎ ((k : ℕ) × IsSomeAnd (slice_get threats k)
    (λ place. IsSomeAnd (slice_get links place) (λ link. has link.carrier better ≡ false))))

-- the opponent is to move and has a move; the steps give links, with the threats among them; each cell to answer has
-- one line, and no other cell has one; and each line is right
pub record IsRightAll (before : List Heading) (heading : Heading)
    (steps : List Step) (threats : List ℕ) (lines : List Line) : Type 0 where
  pub mover : heading.to_move ≡ other_of heading.winner
  pub some : ℕ
  pub some_empty : IsEmpty heading.position some
  pub links : List Link
  pub steps_right : GiveLinks heading.position heading.winner steps links
  pub threats_right : AreThreats links threats
  pub cells : AreInOrder (IsToAnswer heading.position links threats) (map cell_of lines)
  pub lines_right : (k : ℕ) → IfSome (slice_get lines k) (IsRightLine before heading links threats lines)

-- ---- for functions and proofs

-- what `IsRightAll` asks of the threats and the lines
pub record AreAnswered (before : List Heading) (heading : Heading)
    (links : List Link) (threats : List ℕ) (lines : List Line) : Type 0 where
  pub threats_right : AreThreats links threats
  pub cells : AreInOrder (IsToAnswer heading.position links threats) (map cell_of lines)
  pub lines_right : (k : ℕ) → IfSome (slice_get lines k) (IsRightLine before heading links threats lines)

-- the cells that the lines answer
abbrev pub cells_of : List Line → List ℕ
cells_of lines = map cell_of lines

-- some line answers the cell by a child
abbrev pub HasChild : List Line → ℕ → Type 0
HasChild lines cell = (child : ℕ) × Contains lines (Child cell child)

-- the winner wins after the opponent's stone on the cell by an earlier heading
abbrev pub IsRightChild : List Heading → Heading → ℕ → ℕ → Type 0
IsRightChild before heading cell child =
    Leads before child (put heading.position (other_of heading.winner) cell) heading.winner heading.winner
