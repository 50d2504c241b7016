-- What a closed book tells of the openings, and how the table grows.
use Rattle.std.specs.Prelude.{◌≡◌, ℕ, List}
use Rattle.hx_board.specs.declared.colours.Colour.{Colour}
use Rattle.hx_board.specs.declared.colours.Colour.TheVariants.{Black, White}
use Rattle.hx_board.specs.Sets.{insert}
use Rattle.hx_board.specs.Cells.{Extent, OnBoard}
use Rattle.hx_board.specs.Counts.{IsSmall}
use Rattle.hx_board.specs.Positions.{Board}
use Rattle.hx_tree.specs.declared.nodes.Node.{Node}
use Rattle.hx_tree.specs.Entries.{HasNoEntry}
use Rattle.hx_turn.specs.Turned.{IsTurned}
use Rattle.hx_openings.specs.Openings.{opening}
use Rattle.hx_survey.specs.Surveys.{Winners, IsSurvey, HasOpening}

-- with White to move the list has no entry of the position, nor of the turned one
pub record IsUnlisted (nodes : List Node) (board : Board) : Type 0 where
  pub none : HasNoEntry nodes board White
  pub turned_none : (turned : Board) → IsTurned board turned → HasNoEntry nodes turned White

-- the list has no entry of this opening or of the turned one, and it is not small
pub record IsOpen (nodes : List Node) (size : Extent) (budget cell : ℕ) : Type 0 where
  pub none : ¬ HasOpening nodes size cell
  pub not_small : ¬ IsSmall (opening size cell) budget

-- some opening is open
pub record HasOpen (nodes : List Node) (size : Extent) (budget : ℕ) : Type 0 where
  pub cell : ℕ
  pub on_board : OnBoard size cell
  pub is_open : IsOpen nodes size budget cell

-- the table of all openings of a board of this size
pub record IsTable (size : Extent) (table : Winners) : Type 0 where
  pub same_size : table.size ≡ size
  pub right : IsSurvey size table.cells_of_black

-- the set with the cell in it where Black wins
abbrev pub marked : ℕ → ℕ → Colour → ℕ
marked black cell Black = insert black cell
marked black cell White = black
