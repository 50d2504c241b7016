use Rattle.std.proofs.Common.{◌≡◌, ◌<◌, length, arith}
use Rattle.hx_reach.specs.Growth.{IsGrown}
use Rattle.hx_reach.proofs.GrowthLaws.{grown-itself, grown-on}
use Rattle.hx_search.proofs.VertexLaws.{size-extent, size-on, set-extent}
use Rattle.hx_search.proofs.AndLaws.{end-more, end-skip, end-done, own-is, own-on}
use Rattle.hx_search.proofs.ands.settle_end.Goals as goal

pub loop-code-preserved-in_default : goal.loop-code-preserved-in_default
loop-code-preserved-in_default c =
    let is_size : c.size-size.result ≡ c.loop-code.set.present.board.size =
    size-on _ _ c.size-size.result c.position.result.now c.loop-code.invariant.grown c.size-size.ensures.value c.position.ensures in
    record {
      grown = c.loop-code.invariant.grown;
      settled = end-skip c.loop-code.set c.size-size.result is_size c.loop-code.code c.in_default.ensures c.owns-own.result c.args.end.now
          c.args.right c.loop-code.invariant.settled;
    }

pub settle_chain-requires : goal.settle_chain-requires
settle_chain-requires c = omega (arith, c.loop-code.invariant.grown.longer, c.requires)

pub loop-code-preserved : goal.loop-code-preserved
loop-code-preserved c =
    let grown : IsGrown c.args.set.now c.settle_chain.new.set = grown-on _ _ _ c.loop-code.invariant.grown c.settle_chain.ensures.grown in
    let is_size : c.size-size.result ≡ c.settle_chain.new.set.present.board.size =
    size-on _ _ c.size-size.result c.position.result.now grown c.size-size.ensures.value c.position.ensures in
    let inside : c.args.right < length c.loop-code.set.present.links = omega (arith, c.loop-code.invariant.grown.longer, c.requires) in
    record {
      grown = grown;
      settled = end-more c.loop-code.set c.settle_chain.new.set c.settle_chain.ensures.grown c.owns-own.result c.args.end.now c.args.right
          inside c.size-size.result is_size
          (size-extent c.size-size.result c.position.result.now c.size-size.ensures.value c.size-size.ensures.valid)
          c.loop-code.code c.in-Some.to c.in-Some.ensures c.loop-code.invariant.settled
          (rw c.in-Ok-Settled.field-0-is at c.in-Ok-Settled.ensures.tried);
    }

pub returns-clause-tried : goal.returns-clause-tried
returns-clause-tried c =
    let is_size : c.size-size.result ≡ c.loop-code.set.present.board.size =
    size-on _ _ c.size-size.result c.position.result.now c.loop-code.invariant.grown c.size-size.ensures.value c.position.ensures in
    end-done c.loop-code.set
    (set-extent c.loop-code.set c.size-size.result is_size
    (size-extent c.size-size.result c.position.result.now c.size-size.ensures.value c.size-size.ensures.valid))
    c.args.end.now c.args.right c.owns-own.result c.loop-code.code c.loop-code-test.false
    (own-on c.args.set.now c.loop-code.set c.args.end.now c.owns-own.result c.loop-code.invariant.grown
    (own-is c.args.set.now c.args.end.now c.owns-own.result c.position-2.result.now c.colour.result c.position-2.ensures
    c.colour.ensures c.owns-own.ensures))
    c.loop-code.invariant.settled

pub loop-code-init : goal.loop-code-init
loop-code-init c = record { grown = grown-itself c.args.set.now; settled = λ to is less. absurd (omega (arith, less)) }

pub returns-in-Ok-Stopped-clause-tried : goal.returns-in-Ok-Stopped-clause-tried
returns-in-Ok-Stopped-clause-tried c = rw c.in-Ok-Stopped.field-0-is at c.in-Ok-Stopped.ensures.tried
