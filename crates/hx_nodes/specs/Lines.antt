-- The lines of a node that answers each move of the opponent, while they are gathered in cell order, for the
-- functions inside the crate.
use Rattle.std.specs.Prelude.{◌≡◌, ℕ, ◌<◌, true, false, List, slice_get, IfSome, Contains}
use Rattle.hx_board.specs.Sets.{has}
use Rattle.hx_board.specs.declared.colours.Colour.{Colour}
use Rattle.hx_board.specs.Colours.{other_of}
use Rattle.hx_board.specs.Positions.{Board}
use Rattle.hx_tree.specs.declared.nodes.Heading.{Heading}
use Rattle.hx_tree.specs.declared.nodes.Line.{Line}
use Rattle.hx_tree.specs.declared.nodes.Line.TheVariants.{Child, Under}
use Rattle.hx_tree.specs.Answers.{AreInOrder, HasChild, IsRightChild, cell_of, cells_of}
use Rattle.hx_fill.specs.Unders.{HasLineFor}

-- that the player wins with the opponent to move
abbrev pub wins_next : Board → Colour → Heading
wins_next board player = record { position = board; to_move = other_of player; winner = player }

-- a line with a right child, or one of those that name a better cell
abbrev pub IsGathered : List Heading → Heading → List Line → Line → Type 0
IsGathered headings heading under (Child cell child) = IsRightChild headings heading cell child
IsGathered headings heading under (Under cell better kill) = Contains under (Under cell better kill)

-- a line that names a better cell
abbrev pub NamesBetter : Line → Type 0
NamesBetter (Child cell child) = ⊥
NamesBetter (Under cell better kill) = Unit {0}

-- the line of a cell: the one that names a better cell, if there is one, and else one with a right child
pub record IsLineOf (headings : List Heading) (heading : Heading) (under : List Line) (cell : ℕ) (line : Line)
    : Type 0 where
  pub same_cell : cell_of line ≡ cell
  pub gathered : IsGathered headings heading under line
  pub by_child : ¬ HasLineFor under cell → (child : ℕ) × (line ≡ Child cell child)

-- a cell that has its line
pub record IsDone (cells left cell : ℕ) : Type 0 where
  pub member : has cells cell ≡ true
  pub gone : has left cell ≡ false

-- the lines of the cells that are not left, in cell order
pub record AreGathered (headings : List Heading) (heading : Heading) (cells left : ℕ) (under lines : List Line)
    : Type 0 where
  pub inside : (cell : ℕ) → has left cell ≡ true → has cells cell ≡ true
  pub earlier : (done cell : ℕ) → IsDone cells left done → has left cell ≡ true → done < cell
  pub in_order : AreInOrder (IsDone cells left) (cells_of lines)
  pub each : (k : ℕ) → IfSome (slice_get lines k) (IsGathered headings heading under)
  pub by_child : (cell : ℕ) → IsDone cells left cell → ¬ HasLineFor under cell → HasChild lines cell

-- a line for each of the cells, in cell order
pub record AreLines (headings : List Heading) (heading : Heading) (cells : ℕ) (under lines : List Line) : Type 0 where
  pub in_order : AreInOrder (λ cell. has cells cell ≡ true) (cells_of lines)
  pub each : (k : ℕ) → IfSome (slice_get lines k) (IsGathered headings heading under)
  pub by_child : (cell : ℕ) → has cells cell ≡ true → ¬ HasLineFor under cell → HasChild lines cell
