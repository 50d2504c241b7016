use Rattle.std.proofs.Common.{vec_capacity}
use Rattle.hx_count.specs.Machine.{CountsState, with_unit, with_refusal}
use Rattle.hx_count.specs.declared.events.CountEvent.TheVariants.{Spend as SpendUnit}
use Rattle.hx_core.proofs.FieldLaws.{step-written, fields-written, unit_left, no_unit_left, granted-answer, refused-answer, granted-changes}
use Rattle.hx_core.proofs.FieldLaws.{refused-changes}
use Rattle.hx_core.proofs.states.State.spend.Goals as goal

pub invariant_of-self : goal.invariant_of-self
invariant_of-self c =
    let counts : CountsState = record { budget = c.self.inside.budget; accounts = c.self.inside.accounts.items } in
    let left = unit_left counts c.granted_to_all-granted.result
    (rw c.as_slice.ensures.value at c.granted_to_all-granted.ensures) c.if-granted-self.true in
    fields-written c.self.inside.slots c.self.inside.nodes.items c.self.inside.seen.items c.self.inside.budget c.self.inside.accounts.items
    (SpendUnit c.args.worker) (rw (← c.self.view_is) at c.requires) with_unit
    (granted-changes counts c.args.worker left) c.index_mut.result.now c.grant.new.self c.index_mut.ensures.value c.grant.ensures
    (vec_capacity c.self.inside.nodes) c.self.invariant

pub returns-then-granted-self : goal.returns-then-granted-self
returns-then-granted-self c =
    let counts : CountsState = record { budget = c.self.inside.budget; accounts = c.self.inside.accounts.items } in
    let left = unit_left counts c.granted_to_all-granted.result
    (rw c.as_slice.ensures.value at c.granted_to_all-granted.ensures) c.if-granted-self.true in
    rw (← c.self.view_is) (
      granted-answer counts c.args.worker left,
      step-written c.self.inside.slots c.self.inside.nodes.items c.self.inside.seen.items c.self.inside.budget c.self.inside.accounts.items
          (SpendUnit c.args.worker) (rw (← c.self.view_is) at c.requires) with_unit
          (granted-changes counts c.args.worker left) c.index_mut.result.now c.grant.new.self c.index_mut.ensures.value c.grant.ensures,
    )

pub invariant_of-self-2 : goal.invariant_of-self-2
invariant_of-self-2 c =
    let counts : CountsState = record { budget = c.self.inside.budget; accounts = c.self.inside.accounts.items } in
    let left = no_unit_left counts c.granted_to_all-granted.result
    (rw c.as_slice.ensures.value at c.granted_to_all-granted.ensures) c.if-granted-self.false in
    fields-written c.self.inside.slots c.self.inside.nodes.items c.self.inside.seen.items c.self.inside.budget c.self.inside.accounts.items
    (SpendUnit c.args.worker) (rw (← c.self.view_is) at c.requires) with_refusal
    (refused-changes counts c.args.worker left) c.index_mut-2.result.now c.refuse.new.self c.index_mut-2.ensures.value c.refuse.ensures
    (vec_capacity c.self.inside.nodes) c.self.invariant

pub returns : goal.returns
returns c =
    let counts : CountsState = record { budget = c.self.inside.budget; accounts = c.self.inside.accounts.items } in
    let left = no_unit_left counts c.granted_to_all-granted.result
    (rw c.as_slice.ensures.value at c.granted_to_all-granted.ensures) c.if-granted-self.false in
    rw (← c.self.view_is) (
      refused-answer counts c.args.worker left,
      step-written c.self.inside.slots c.self.inside.nodes.items c.self.inside.seen.items c.self.inside.budget c.self.inside.accounts.items
          (SpendUnit c.args.worker) (rw (← c.self.view_is) at c.requires) with_refusal
          (refused-changes counts c.args.worker left) c.index_mut-2.result.now c.refuse.new.self c.index_mut-2.ensures.value
          c.refuse.ensures,
    )
