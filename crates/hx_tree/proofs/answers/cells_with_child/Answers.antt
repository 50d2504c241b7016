-- A line with a child adds its cell, any other line adds none.
use Rattle.std.proofs.Common.{sym, ◌∙◌, arith}
use Rattle.std.proofs.lemmas.Bool.{false≢true}
use Rattle.std.proofs.lemmas.List.{take_all}
use Rattle.hx_board.proofs.SetLaws.{has-empty}
use Rattle.hx_tree.proofs.LineLaws.{one_child_more, no_child_more}
use Rattle.hx_tree.proofs.answers.cells_with_child.Goals as goal
use Rattle.hx_tree.proofs.answers.cells_with_child.Goals.{in-Child, in-Under}

pub loop-line-init : goal.loop-line-init
loop-line-init c = λ n.
    rw c.empty-answered.ensures ((λ h. absurd (false≢true (sym (has-empty n) ∙ h))), (λ h. absurd (omega (arith, h.1.1))))

pub loop-line-preserved : goal.loop-line-preserved
loop-line-preserved c = elim c.match-line.branch [
  | in-Child w ↦ rw (w.answered-is, w.with-answered.ensures.set)
      (one_child_more c.args.lines.now c.loop-line.line-index c.loop-line.answered c.line-item.result c.loop-line-test.true c.line-item.is
      c.loop-line.invariant
      w.in-Child.cell w.in-Child.child w.in-Child.is)
  | in-Under w ↦ rw w.answered-is
      (no_child_more c.args.lines.now c.loop-line.line-index c.loop-line.answered c.line-item.result c.loop-line-test.true c.line-item.is
      c.loop-line.invariant
      w.in-Under.cell w.in-Under.better w.in-Under.kill w.in-Under.is)
]

pub returns : goal.returns
returns c = rw (take_all c.loop-line.line-index c.args.lines.now c.loop-line-test.false) at c.loop-line.invariant
