use Rattle.std.proofs.Common.{refl}
use Rattle.hx_count.specs.Machine.{releasing}
use Rattle.hx_count.specs.declared.events.CountEvent.TheVariants.{Release as ReleaseWord}
use Rattle.hx_core.proofs.FieldLaws.{step-written, fields-written}
use Rattle.hx_core.proofs.states.State.release.Goals as goal

pub invariant_of-self : goal.invariant_of-self
invariant_of-self c =
    fields-written _ _ _ _ _ (ReleaseWord c.args.worker c.args.word) (rw (← c.self.view_is) at c.requires) (releasing c.args.word) refl _ _
    c.index_mut.ensures.value c.release.ensures _ c.self.invariant

pub returns : goal.returns
returns c = rw (← c.self.view_is) (
  refl,
  step-written _ _ _ _ _ (ReleaseWord c.args.worker c.args.word) (rw (← c.self.view_is) at c.requires) (releasing c.args.word) refl _ _
      c.index_mut.ensures.value c.release.ensures,
)
