-- An opening that has an entry has it in each list that goes on.
use Rattle.std.specs.Prelude.{ℕ, List}
use Rattle.hx_board.specs.declared.colours.Colour.TheVariants.{White}
use Rattle.hx_board.specs.Cells.{Extent}
use Rattle.hx_tree.specs.declared.nodes.Node.{Node}
use Rattle.hx_tree.specs.Entries.{Extends}
use Rattle.hx_pool.proofs.LaterLists.{found-later}
use Rattle.hx_survey.specs.Surveys.{HasOpening}

pub opening-later : (old new : List Node) (size : Extent) (cell : ℕ) → Extends old new → HasOpening old size cell → HasOpening new size cell
opening-later old new size cell more has = record {
  board = has.board;
  which = has.which;
  found = has.found;
  first = found-later old new has.board White has.found more has.first;
}
