use Rattle.std.proofs.Common.{◌≡◌, length, vec_capacity, refl, arith}
use Rattle.hx_core.proofs.FieldLaws.{fields-added, refused-step, added-step}
use Rattle.hx_core.proofs.states.State.store.Goals as goal

pub returns-then-held-self : goal.returns-then-held-self
returns-then-held-self c =
    let held : c.len-held.result ≡ length c.self.inside.nodes.items = omega (arith, c.len-held.ensures, c.self.inside.nodes.ok) in
    rw (← c.self.view_is) (
      refused-step c.self.inside.slots c.self.inside.nodes.items c.self.inside.seen.items c.args.worker c.len-held.result held c.args.node
          (rw c.as_slice.ensures.value at c.in_default.ensures) c.if-held-self.true,
      refl,
    )

pub invariant_of-self-2 : goal.invariant_of-self-2
invariant_of-self-2 c =
    let held : c.len-held.result ≡ length c.self.inside.nodes.items = omega (arith, c.len-held.ensures, c.self.inside.nodes.ok) in
    rw (c.push_reserved.ensures.items, c.push_reserved.ensures.capacity)
    (fields-added c.self.inside.slots c.self.inside.nodes.items c.self.inside.seen.items c.self.inside.budget c.self.inside.accounts.items
    (vec_capacity c.self.inside.nodes) c.self.invariant
    c.args.worker c.len-held.result c.args.node held c.if-held-self.false (rw (← c.self.view_is) at c.requires).1
    (rw c.as_slice.ensures.value at c.in_default.ensures))

pub returns : goal.returns
returns c =
    let held : c.len-held.result ≡ length c.self.inside.nodes.items = omega (arith, c.len-held.ensures, c.self.inside.nodes.ok) in
    rw (← c.self.view_is, c.push_reserved.ensures.items) (
      added-step c.self.inside.slots c.self.inside.nodes.items c.self.inside.seen.items c.args.worker c.len-held.result held c.args.node
          (rw c.as_slice.ensures.value at c.in_default.ensures) c.if-held-self.false
          (omega (arith, c.self.invariant.kept.book.held, c.self.invariant.kept.book.same_slots)),
      refl,
    )
