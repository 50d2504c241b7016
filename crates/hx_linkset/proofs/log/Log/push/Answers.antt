use Rattle.std.proofs.Common.{List, ℕ, sym, subst}
use Rattle.hx_linkset.specs.Held.{IsIn}
use Rattle.hx_linkset.proofs.LogWordLaws.{log-push}
use Rattle.hx_linkset.proofs.BlockLaws.{bit_xor-remove}
use Rattle.hx_linkset.proofs.TouchLaws.{below-block}
use Rattle.hx_linkset.proofs.log.Log.push.Goals as goal

pub invariant_of-self : goal.invariant_of-self
invariant_of-self c =
    let P : List ℕ → Type 0 = λ places. IsIn places c.args.place → ⊥ in
    rw (
      c.push_reserved.ensures.items,
      c.push_reserved.ensures.capacity,
      c.deref_mut.ensures.value,
      c.deref.ensures,
      bit_xor-remove _ _ (below-block c.args.place),
    )
    (log-push c.self.inside.places.items c.self.inside.others.value _ c.args.place c.self.invariant.long c.requires.small c.self.invariant
    (subst P (sym c.self.view_is) c.requires.off))
