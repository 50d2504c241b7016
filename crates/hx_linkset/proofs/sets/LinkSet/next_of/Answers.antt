use Rattle.std.proofs.Common.{ℕ, ◌<◌, ◌+◌, ◌-◌, refl, subst, arith}
use Rattle.hx_linkset.specs.States.{Standing}
use Rattle.hx_linkset.specs.LiveOf.{IsLiveOf, IsFirstFrom}
use Rattle.hx_linkset.proofs.NextLaws.{later-none, later-some}
use Rattle.hx_linkset.proofs.FieldLaws.{now, right}
use Rattle.hx_linkset.proofs.sets.LinkSet.next_of.Goals as goal

pub after-node-requires : goal.after-node-requires
after-node-requires c =
    let held = (now _ _ _ _ _ _ _ _ _ _ _ c.self.invariant).hold in
    omega (arith, held.next_long)

pub returns-then-node-lt-FIRST_NODE : goal.returns-then-node-lt-FIRST_NODE
returns-then-node-lt-FIRST_NODE c = λ kind a b.
    let P : Standing → Type 0 = λ s. IsLiveOf s kind a b c.args.index → (place : ℕ) → c.args.index < place → IsLiveOf s kind a b place
    → ⊥ in
    subst P c.self.view_is
    (λ is. later-none _ (right _ _ _ _ _ _ _ _ _ _ _ c.self.invariant) c.self.inside.chains
    (now _ _ _ _ _ _ _ _ _ _ _ c.self.invariant).hold
    kind a b c.args.index is (rw c.after-node.ensures at c.if-node-lt-FIRST_NODE.true))

pub returns : goal.returns
returns c = λ kind a b.
    let P : Standing → Type 0 = λ s. IsLiveOf s kind a b c.args.index
    → IsFirstFrom s kind a b (c.args.index + 1) (c.after-node.result - 30258) in
    subst P c.self.view_is
    (λ is. later-some _ (right _ _ _ _ _ _ _ _ _ _ _ c.self.invariant) c.self.inside.chains
    (now _ _ _ _ _ _ _ _ _ _ _ c.self.invariant).hold
    kind a b c.args.index is (c.after-node.result - 30258)
    (rw c.after-node.ensures at c.if-node-lt-FIRST_NODE.false) (rw c.after-node.ensures refl))
