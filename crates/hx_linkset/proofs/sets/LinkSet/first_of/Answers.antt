use Rattle.std.proofs.Common.{ℕ, ◌-◌, refl, subst, arith}
use Rattle.hx_linkset.specs.States.{Standing}
use Rattle.hx_linkset.specs.LiveOf.{IsLiveOf, IsFirstFrom}
use Rattle.hx_linkset.proofs.NextLaws.{first-none, first-some}
use Rattle.hx_linkset.proofs.FieldLaws.{now, right}
use Rattle.hx_linkset.proofs.sets.LinkSet.first_of.Goals as goal

pub after-node-requires : goal.after-node-requires
after-node-requires c =
    let held = (now _ _ _ _ _ _ _ _ _ _ _ c.self.invariant).hold in
    omega (arith, held.next_long, c.head_between-head.ensures.small)

pub returns-then-node-lt-FIRST_NODE : goal.returns-then-node-lt-FIRST_NODE
returns-then-node-lt-FIRST_NODE c =
    let P : Standing → Type 0 = λ s. (place : ℕ) → IsLiveOf s c.args.kind c.args.a c.args.b place → ⊥ in
    subst P c.self.view_is
    (first-none _ (right _ _ _ _ _ _ _ _ _ _ _ c.self.invariant) c.self.inside.chains
    (now _ _ _ _ _ _ _ _ _ _ _ c.self.invariant).hold
    c.args.kind c.args.a c.args.b c.head_between-head.result c.head_between-head.ensures.between
    (rw c.after-node.ensures at c.if-node-lt-FIRST_NODE.true))

pub returns : goal.returns
returns c =
    let P : Standing → Type 0 = λ s. IsFirstFrom s c.args.kind c.args.a c.args.b 0 (c.after-node.result - 30258) in
    subst P c.self.view_is
    (first-some _ (right _ _ _ _ _ _ _ _ _ _ _ c.self.invariant) c.self.inside.chains
    (now _ _ _ _ _ _ _ _ _ _ _ c.self.invariant).hold
    c.args.kind c.args.a c.args.b c.head_between-head.result c.head_between-head.ensures.between (c.after-node.result - 30258)
    (rw c.after-node.ensures at c.if-node-lt-FIRST_NODE.false) (rw c.after-node.ensures refl))
