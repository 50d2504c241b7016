-- The lines of a node whose children were added as proofs: each leads to the last node of its proof, and is a line with
-- a child.
use Rattle.std.proofs.Common.{ℕ, zero, suc, List, [], ◌∷◌, ◌++◌, ap, ◌∙◌, arith}
use Rattle.std.specs.Prelude.{slice_get, IfSome}
use Rattle.std.specs.List.{All}
use Rattle.hx_board.specs.declared.colours.Colour.{Colour}
use Rattle.hx_board.specs.Colours.{other_of}
use Rattle.hx_board.specs.Sets.{remove}
use Rattle.hx_board.specs.Cells.{IsLeastOn}
use Rattle.hx_board.specs.Positions.{Board, IsBoard, put}
use Rattle.hx_tree.specs.declared.nodes.Heading.{Heading}
use Rattle.hx_tree.specs.declared.nodes.Node.{Node}
use Rattle.hx_tree.specs.declared.nodes.Line.{Line}
use Rattle.hx_tree.specs.declared.nodes.Line.TheVariants.{Child, Under}
use Rattle.hx_tree.specs.Trees.{headings_of}
use Rattle.hx_tree.proofs.TreeGrowth.{headings_of-append}
use Rattle.hx_tree.specs.Headings.{heading_of}
use Rattle.hx_sweep.specs.Growth.{IsProved}
use Rattle.hx_tree.specs.Plain.{IsChildLine}
use Rattle.hx_tree.proofs.LinesInOrder.{AreAnsweredSoFar, IsRightChildLine, one_more_answered}
use Rattle.hx_sweep.proofs.NodeGrowth.{proved_leads}

-- the nodes of the answer stand in a list of nodes
pub answered_on : (board : Board) (winner : Colour) (left : ℕ) (nodes after : List Node) (lines : List Line) (cell child : ℕ)
    → IsBoard board
    → AreAnsweredSoFar (headings_of nodes) (heading_of board (other_of winner) winner) left lines → IsLeastOn board.size left cell
    → IsProved (put board (other_of winner) cell) winner winner nodes after child
    → AreAnsweredSoFar (headings_of after) (heading_of board (other_of winner) winner) (remove left cell) (lines ++ Child cell child ∷ [])
answered_on board winner left nodes after lines cell child valid before least proved =
    let same = ap headings_of proved.grown.same ∙ headings_of-append nodes proved.grown.more in
    rw same
    (one_more_answered (headings_of nodes) (headings_of proved.grown.more)
    (heading_of board (other_of winner) winner) left lines cell child valid before least
    (rw same at (proved_leads _ _ _ _ _ _ proved)))

child_line : (headings : List Heading) (heading : Heading) (line : Line) → IsRightChildLine headings heading line → IsChildLine line
child_line headings heading (Child cell child) right = tt
child_line headings heading (Under cell better kill) right = right

-- lines with right children are lines with children
pub child_lines : (headings : List Heading) (heading : Heading) (lines : List Line)
    → ((k : ℕ) → IfSome (slice_get lines k) (IsRightChildLine headings heading))
    → All IsChildLine lines
child_lines headings heading [] right k d less = absurd (omega arith)
child_lines headings heading (first ∷ lines) right zero d less = child_line headings heading first (right 0)
child_lines headings heading (first ∷ lines) right (suc k) d less =
    child_lines headings heading lines (λ j. right (suc j)) k d (omega arith)
