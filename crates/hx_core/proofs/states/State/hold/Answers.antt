use Rattle.std.proofs.Common.{refl}
use Rattle.hx_count.specs.Machine.{holding}
use Rattle.hx_count.specs.declared.events.CountEvent.TheVariants.{Hold as HoldWord}
use Rattle.hx_core.proofs.FieldLaws.{step-written, fields-written}
use Rattle.hx_core.proofs.states.State.hold.Goals as goal

pub invariant_of-self : goal.invariant_of-self
invariant_of-self c =
    fields-written _ _ _ _ _ (HoldWord c.args.worker c.args.word) (rw (← c.self.view_is) at c.requires) (holding c.args.word) refl _ _
    c.index_mut.ensures.value c.hold.ensures _ c.self.invariant

pub returns : goal.returns
returns c = rw (← c.self.view_is) (
  refl,
  step-written _ _ _ _ _ (HoldWord c.args.worker c.args.word) (rw (← c.self.view_is) at c.requires) (holding c.args.word) refl _ _
      c.index_mut.ensures.value c.hold.ensures,
)
