use Rattle.std.proofs.Common.{◌≡◌, arith}
use Rattle.hx_reach.specs.Growth.{IsGrown}
use Rattle.hx_reach.proofs.GrowthLaws.{grown-itself, grown-on}
use Rattle.hx_search.proofs.VertexLaws.{size-extent, size-on}
use Rattle.hx_search.proofs.BaseLaws.{stuck-base, bases-more, bases-skip}
use Rattle.hx_search.proofs.bases.settle_bases_of.Goals as goal

pub returns-in-Ok-Stopped-clause-tried : goal.returns-in-Ok-Stopped-clause-tried
returns-in-Ok-Stopped-clause-tried c =
    stuck-base c.settle.new.set c.args.a.now c.in-Some.b (rw c.in-Ok-Stopped.field-0-is at c.in-Ok-Stopped.ensures.tried)

pub loop-code-preserved-in_default : goal.loop-code-preserved-in_default
loop-code-preserved-in_default c =
    let is_size : c.size-size.result ≡ c.loop-code.set.present.board.size =
    size-on _ _ c.size-size.result c.position.result.now c.loop-code.invariant.grown c.size-size.ensures.value c.position.ensures in
    record {
      grown = c.loop-code.invariant.grown;
      settled = bases-skip c.loop-code.set c.size-size.result is_size c.loop-code.code c.in_default.ensures c.args.a.now c.args.from
          c.loop-code.invariant.settled;
    }

pub loop-code-preserved : goal.loop-code-preserved
loop-code-preserved c =
    let grown : IsGrown c.args.set.now c.settle.new.set = grown-on _ _ _ c.loop-code.invariant.grown c.settle.ensures.grown in
    let is_size : c.size-size.result ≡ c.settle.new.set.present.board.size =
    size-on _ _ c.size-size.result c.position.result.now grown c.size-size.ensures.value c.position.ensures in
    record {
      grown = grown;
      settled = bases-more c.loop-code.set c.settle.new.set c.settle.ensures.grown c.size-size.result is_size
          (size-extent c.size-size.result c.position.result.now c.size-size.ensures.value c.size-size.ensures.valid)
          c.loop-code.code c.in-Some.b c.in-Some.ensures c.args.a.now c.args.from c.loop-code.invariant.settled
          (rw c.in-Ok-Settled.field-0-is at c.in-Ok-Settled.ensures.tried);
    }

pub returns-clause-tried : goal.returns-clause-tried
returns-clause-tried c = λ b is less le. c.loop-code.invariant.settled b is (omega (arith, less, c.loop-code-test.false)) le

pub loop-code-init : goal.loop-code-init
loop-code-init c = record { grown = grown-itself c.args.set.now; settled = λ b is less le. absurd (omega (arith, less, le)) }
