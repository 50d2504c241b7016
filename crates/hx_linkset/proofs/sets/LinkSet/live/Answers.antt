use Rattle.std.proofs.Common.{◌≡◌, length, subst, arith, rules}
use Rattle.hx_linkset.specs.States.{Standing}
use Rattle.hx_linkset.specs.LivePairs.{AreLivePairs}
use Rattle.hx_linkset.proofs.FieldLaws.{now, right}
use Rattle.hx_linkset.proofs.PairLaws.{live-pairs}
use Rattle.hx_linkset.proofs.sets.LinkSet.live.Goals as goal

pub new-requires : goal.new-requires
new-requires c =
    let held = (now _ _ _ _ _ _ _ _ _ _ _ c.self.invariant).hold in
    omega (arith, held.next_long)

pub returns : goal.returns
returns c =
    let most : c.len-most.result ≡ length c.self.inside.links = search rules in
    let P : Standing → Type 0 = λ s. AreLivePairs s c.args.a c.args.b c.new.result in
    subst P c.self.view_is (rw (c.new.ensures, most)
    (live-pairs _ (right _ _ _ _ _ _ _ _ _ _ _ c.self.invariant) c.args.a c.args.b _ _ c.in_order-low.ensures.order
    c.in_order-low.ensures.low c.in_order-low.ensures.high
    c.self.inside.chains (now _ _ _ _ _ _ _ _ _ _ _ c.self.invariant).hold))
