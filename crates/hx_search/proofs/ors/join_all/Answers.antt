use Rattle.std.proofs.Common.{◌≡◌, arith}
use Rattle.hx_reach.specs.Growth.{IsGrown}
use Rattle.hx_reach.proofs.GrowthLaws.{grown-on}
use Rattle.hx_search.specs.Progress.{AreForksBelow}
use Rattle.hx_search.proofs.VertexLaws.{size-extent, size-on}
use Rattle.hx_search.proofs.OrLaws.{forks-next, forks-none}
use Rattle.hx_search.proofs.PassedLaws.{so_far-begins, so_far-as, so_far-same, so_far-more}
use Rattle.hx_search.proofs.ors.join_all.Goals as goal

pub loop-code-init : goal.loop-code-init
loop-code-init c = so_far-begins _ (λ a is less. absurd (omega (arith, less)))

pub loop-code-preserved-in_default : goal.loop-code-preserved-in_default
loop-code-preserved-in_default c =
    so_far-as c.loop-code.invariant (forks-none c.loop-code.set c.size-size.result
    (size-on _ _ c.size-size.result c.position.result.now c.loop-code.invariant.grown c.size-size.ensures.value c.position.ensures)
    c.loop-code.code c.in_default.ensures)

pub loop-code-preserved-in-Ok-Same : goal.loop-code-preserved-in-Ok-Same
loop-code-preserved-in-Ok-Same c =
    let grown : IsGrown c.args.set.now c.join_from.new.set = grown-on _ _ _ c.loop-code.invariant.grown c.join_from.ensures.grown in
    let is_size : c.size-size.result ≡ c.join_from.new.set.present.board.size =
    size-on _ _ c.size-size.result c.position.result.now grown c.size-size.ensures.value c.position.ensures in
    so_far-same (λ s. AreForksBelow s c.loop-code.code) c.loop-code.invariant (rw c.in-Ok-Same.field-0-is at c.in-Ok-Same.ensures.passed)
    (forks-next c.join_from.new.set c.size-size.result is_size c.loop-code.code
    (size-extent c.size-size.result c.position.result.now c.size-size.ensures.value c.size-size.ensures.valid)
    c.in-Some.a c.in-Some.ensures)

pub loop-code-preserved : goal.loop-code-preserved
loop-code-preserved c =
    so_far-more c.loop-code.invariant c.join_from.ensures.grown (rw c.in-Ok-More.field-0-is at c.in-Ok-More.ensures.passed)

pub returns-in-Ok-Full-clause-passed : goal.returns-in-Ok-Full-clause-passed
returns-in-Ok-Full-clause-passed c = rw c.in-Ok-Full.field-0-is at c.in-Ok-Full.ensures.passed

pub returns-then-more-clause-passed : goal.returns-then-more-clause-passed
returns-then-more-clause-passed c = c.loop-code.invariant.longer c.if-more.true

pub returns-clause-passed : goal.returns-clause-passed
returns-clause-passed c =
    let passed = c.loop-code.invariant.same c.if-more.false in (passed.0, λ a is less. passed.1 a is (omega (arith, less, c.loop-code-test.false)))
