use Rattle.std.proofs.Common.{◌≡◌, sym, ◌∙◌, refl}
use Rattle.std.proofs.lemmas.Bool.{eqb-false}
use Rattle.std.proofs.lemmas.List.{take_all}
use Rattle.hx_tree.specs.declared.nodes.Line.TheVariants.{Child}
use Rattle.hx_play.proofs.LookLaws.{child-more}
use Rattle.hx_play.proofs.stands.child_for.Goals as goal
use Rattle.hx_play.proofs.stands.child_for.Goals.{in-Child+else-eq, in_default}

pub loop-line-preserved : goal.loop-line-preserved
loop-line-preserved c = elim c.match-line.branch [
  | in-Child+else-eq w ↦ child-more c.args.cell c.args.lines.now c.loop-line.line-index c.line-item.result c.loop-line-test.true
      c.line-item.is c.loop-line.invariant
      (λ child e. eqb-false _ _ (sym w.eq.ensures ∙ w.if-eq.false)
      (let same : w.in-Child.answered ≡ c.args.cell = cc (w.in-Child.is, e) in same))
  | in_default w ↦ child-more c.args.cell c.args.lines.now c.loop-line.line-index c.line-item.result c.loop-line-test.true c.line-item.is
      c.loop-line.invariant
      (λ child e. w.in_default.not-Child c.args.cell child e)
]

pub returns : goal.returns
returns c = λ has. (rw (take_all c.loop-line.line-index c.args.lines.now c.loop-line-test.false) at c.loop-line.invariant)
    (Child c.args.cell has.0) has.1 has.0 refl
