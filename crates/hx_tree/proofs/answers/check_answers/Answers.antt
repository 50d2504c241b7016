-- The lines are those of the cells to answer, so the cell of each line is empty; and a better cell is in the set of the
-- moves that lose exactly where it has a child or leaves a threat whole.
use Rattle.std.proofs.Common.{◌↔◌, ℕ, List, Bool, IsTrue, refl, arith, slice_get, IfSome}
use Rattle.std.proofs.lemmas.List.{get_or-map, length-map}
use Rattle.std.specs.List.{All}
use Rattle.hx_board.specs.Positions.{Board, IsEmpty}
use Rattle.hx_link.specs.declared.links.Link.{Link}
use Rattle.hx_tree.specs.declared.nodes.Heading.{Heading}
use Rattle.hx_tree.specs.declared.nodes.Line.{Line}
use Rattle.hx_tree.specs.Steps.{AreThreats}
use Rattle.hx_tree.specs.Answers.{AreInOrder, AreAnswered, IsToAnswer, IsRightLine, cell_of, cells_of}
use Rattle.hx_tree.proofs.CellOrder.{same_kind}
use Rattle.hx_tree.proofs.LineLaws.{all_given-right}
use Rattle.hx_tree.proofs.answers.check_answers.Goals as goal

lines_empty : (board : Board) (links : List Link) (threats : List ℕ) (lines : List Line)
    → AreInOrder (IsToAnswer board links threats) (cells_of lines)
    → All (λ line. IsEmpty board (cell_of line)) lines
lines_empty board links threats lines answered k line less =
    rw (get_or-map cell_of lines k line 0 less) at ((answered.only k 0 (omega (arith, length-map lines cell_of))).empty)

all_answered : (before : List Heading) (heading : Heading) (links : List Link) (threats : List ℕ) (lines : List Line) (answer : Bool)
    → AreThreats links threats
    → AreInOrder (IsToAnswer heading.position links threats) (cells_of lines) → IsTrue answer
    ↔ ((k : ℕ) → IfSome (slice_get lines k) (IsRightLine before heading links threats lines))
    → IsTrue answer ↔ AreAnswered before heading links threats lines
all_answered before heading links threats lines answer are cells right = (
  (λ yes. record { threats_right = are; cells = cells; lines_right = right.0 yes }),
  (λ answered. right.1 answered.lines_right),
)

pub are_right-requires : goal.are_right-requires
are_right-requires c =
    lines_empty c.args.heading.now.position c.args.links.now c.args.threats.now c.args.lines.now
    (same_kind _ _ (cells_of c.args.lines.now) c.in-Some.ensures.1 (c.are_lines_of.ensures.0 c.if-not-are_lines_of.false))

pub returns : goal.returns
returns c =
    let given = rw (c.union-lost.ensures.set, c.minus-leaves_a_threat.ensures.set) at c.are_right.ensures in
    let same = all_given-right c.args.heading.now.position c.args.links.now c.args.threats.now c.args.lines.now c.empties.result
    c.in-Some.cells c.cells_with_child.result
    c.empties.ensures c.in-Some.ensures.0 c.in-Some.ensures.1 c.cells_with_child.ensures c.args.before.now c.args.heading.now refl in
    all_answered c.args.before.now c.args.heading.now c.args.links.now c.args.threats.now c.args.lines.now c.are_right.result
    c.in-Some.ensures.0
    (same_kind _ _ (cells_of c.args.lines.now) c.in-Some.ensures.1 (c.are_lines_of.ensures.0 c.if-not-are_lines_of.false))
    ((λ yes. same.0 (given.0 yes)), (λ right. given.1 (same.1 right)))
