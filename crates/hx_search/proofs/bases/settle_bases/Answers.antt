use Rattle.std.proofs.Common.{◌≡◌, arith}
use Rattle.hx_reach.specs.Growth.{IsGrown}
use Rattle.hx_reach.proofs.GrowthLaws.{grown-itself, grown-on}
use Rattle.hx_search.proofs.VertexLaws.{size-extent, size-on}
use Rattle.hx_search.proofs.BaseLaws.{below-next, below-none}
use Rattle.hx_search.proofs.bases.settle_bases.Goals as goal

pub loop-code-preserved-in_default : goal.loop-code-preserved-in_default
loop-code-preserved-in_default c =
    let is_size : c.size-size.result ≡ c.loop-code.set.present.board.size =
    size-on _ _ c.size-size.result c.position.result.now c.loop-code.invariant.grown c.size-size.ensures.value c.position.ensures in
    record {
      grown = c.loop-code.invariant.grown;
      settled = below-none c.loop-code.set c.size-size.result is_size c.loop-code.code c.in_default.ensures c.loop-code.invariant.settled;
    }

pub loop-code-preserved : goal.loop-code-preserved
loop-code-preserved c =
    let grown : IsGrown c.args.set.now c.settle_bases_of.new.set =
    grown-on _ _ _ c.loop-code.invariant.grown c.settle_bases_of.ensures.grown in
    let is_size : c.size-size.result ≡ c.settle_bases_of.new.set.present.board.size =
    size-on _ _ c.size-size.result c.position.result.now grown c.size-size.ensures.value c.position.ensures in
    record {
      grown = grown;
      settled = below-next c.loop-code.set c.settle_bases_of.new.set c.settle_bases_of.ensures.grown c.size-size.result is_size
          (size-extent c.size-size.result c.position.result.now c.size-size.ensures.value c.size-size.ensures.valid)
          c.loop-code.code c.in-Some.a c.in-Some.ensures c.loop-code.invariant.settled
          (rw c.in-Ok-Settled.field-0-is at c.in-Ok-Settled.ensures.tried);
    }

pub returns-clause-tried : goal.returns-clause-tried
returns-clause-tried c = λ a is less. c.loop-code.invariant.settled a is (omega (arith, less, c.loop-code-test.false))

pub loop-code-init : goal.loop-code-init
loop-code-init c = record { grown = grown-itself c.args.set.now; settled = λ a is less. absurd (omega (arith, less)) }

pub returns-in-Ok-Stopped-clause-tried : goal.returns-in-Ok-Stopped-clause-tried
returns-in-Ok-Stopped-clause-tried c = rw c.in-Ok-Stopped.field-0-is at c.in-Ok-Stopped.ensures.tried
