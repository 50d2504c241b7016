use Rattle.std.proofs.Common.{ℕ, ◌<◌, length, sym, subst, arith}
use Rattle.std.specs.declared.option.Option.{Option}
use Rattle.std.specs.declared.option.Option.TheVariants.{Some}
use Rattle.hx_link.specs.declared.steps.Step.{Step}
use Rattle.hx_link.specs.declared.links.Kind.TheVariants.{Full}
use Rattle.hx_search.specs.Closed.{IsSettled}
use Rattle.hx_search.specs.Progress.{IsUnsettled, and_at, IsChainSettledTo}
use Rattle.hx_reach.proofs.GrowthLaws.{grown-itself, grown-on}
use Rattle.hx_search.proofs.SettledLaws.{live_of-on}
use Rattle.hx_search.proofs.AndLaws.{stuck-and, chain_left, chain-start, chain-falls, chain-next, chain-past}
use Rattle.hx_search.proofs.ands.settle_chain.Goals as goal

pub loop-next-init : goal.loop-next-init
loop-next-init c = record {
  grown = grown-itself c.args.set.now;
  settled = chain-start c.args.set.now c.args.own c.args.end.now c.args.to.now c.args.right c.first_of-next.result c.first_of-next.ensures;
}

pub returns-then-right-left-clause-tried : goal.returns-then-right-left-clause-tried
returns-then-right-left-clause-tried c =
    let P : Option ℕ → Type 0 = λ next. IsChainSettledTo c.loop-next.set c.args.own c.args.end.now c.args.to.now c.args.right next in
    chain-past c.loop-next.set c.args.own c.args.end.now c.args.to.now c.args.right c.in-Some.left c.if-right-left.true
    (subst P c.in-Some.is c.loop-next.invariant.settled)

pub returns-in-Ok-Stopped-clause-tried : goal.returns-in-Ok-Stopped-clause-tried
returns-in-Ok-Stopped-clause-tried c =
    let P : Step → Type 0 = λ step. IsUnsettled c.settle.new.set step in
    stuck-and c.settle.new.set c.args.own c.in-Some.left c.args.right
    (subst P c.and_of.ensures (rw c.in-Ok-Stopped.field-0-is at c.in-Ok-Stopped.ensures.tried))

pub loop-next-smaller : goal.loop-next-smaller
loop-next-smaller c =
    let P : Option ℕ → Type 0 = λ next. IsChainSettledTo c.loop-next.set c.args.own c.args.end.now c.args.to.now c.args.right next in
    let here : IsChainSettledTo c.loop-next.set c.args.own c.args.end.now c.args.to.now c.args.right (Some c.in-Some.left) =
    subst P c.in-Some.is c.loop-next.invariant.settled in
    let live = live_of-on c.loop-next.set c.settle.new.set c.settle.ensures.grown Full c.args.end.now c.args.to.now c.in-Some.left here.0 in
    let Q : Option ℕ → Type 0 = λ next. chain_left c.next_of-next.result c.args.right < chain_left next c.args.right in
    subst Q (sym c.in-Some.is)
    (chain-falls c.settle.new.set c.args.end.now c.args.to.now c.in-Some.left c.args.right c.next_of-next.result c.if-right-left.false
    (c.next_of-next.ensures Full c.args.end.now c.args.to.now live))

pub loop-next-preserved : goal.loop-next-preserved
loop-next-preserved c =
    let P : Option ℕ → Type 0 = λ next. IsChainSettledTo c.loop-next.set c.args.own c.args.end.now c.args.to.now c.args.right next in
    let here : IsChainSettledTo c.loop-next.set c.args.own c.args.end.now c.args.to.now c.args.right (Some c.in-Some.left) =
    subst P c.in-Some.is c.loop-next.invariant.settled in
    let live = live_of-on c.loop-next.set c.settle.new.set c.settle.ensures.grown Full c.args.end.now c.args.to.now c.in-Some.left here.0 in
    let R : Step → Type 0 = λ step. IsSettled c.settle.new.set step in
    let tried : IsSettled c.settle.new.set (and_at c.args.own c.in-Some.left c.args.right) =
    subst R c.and_of.ensures (rw c.in-Ok-Settled.field-0-is at c.in-Ok-Settled.ensures.tried) in
    let inside : c.args.right < length c.loop-next.set.present.links = omega (arith, c.loop-next.invariant.grown.longer, c.requires) in
    record {
      grown = grown-on _ _ _ c.loop-next.invariant.grown c.settle.ensures.grown;
      settled = chain-next c.loop-next.set c.settle.new.set c.settle.ensures.grown c.args.own c.args.end.now c.args.to.now c.args.right
          inside c.in-Some.left c.if-right-left.false here tried
          c.next_of-next.result (c.next_of-next.ensures Full c.args.end.now c.args.to.now live);
    }
