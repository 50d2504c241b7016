use Rattle.std.proofs.Common.{◌≡◌, ◌≢◌, ℕ, List, [], length, sym, subst, rules}
use Rattle.hx_linkset.proofs.LogWordLaws.{last-block, log-pop}
use Rattle.hx_linkset.proofs.BlockLaws.{bit_or-insert}
use Rattle.hx_linkset.proofs.TouchLaws.{below-block}
use Rattle.hx_linkset.proofs.log.Log.pop.Goals as goal

pub bounds-deref_mut-block : goal.bounds-deref_mut-block
bounds-deref_mut-block c =
    let P : List ℕ → Type 0 = λ places. places ≢ [] in
    let long : c.len-last.result ≡ length c.self.inside.places.items = search rules in
    last-block _ _ _ _ c.self.invariant (subst P (sym c.self.view_is) c.requires) (rw long at c.index-place.ensures)

pub bounds-deref_mut-block-2 : goal.bounds-deref_mut-block-2
bounds-deref_mut-block-2 c =
    let P : List ℕ → Type 0 = λ places. places ≢ [] in
    let long : c.len-last.result ≡ length c.self.inside.places.items = search rules in
    last-block _ _ _ _ c.self.invariant (subst P (sym c.self.view_is) c.requires) (rw long at c.index-place.ensures)

pub invariant_of-self : goal.invariant_of-self
invariant_of-self c =
    let P : List ℕ → Type 0 = λ places. places ≢ [] in
    let long : c.len-last.result ≡ length c.self.inside.places.items = search rules in
    rw (
      c.truncate.ensures.items,
      c.truncate.ensures.capacity,
      c.deref_mut.ensures.value,
      bit_or-insert _ _ (below-block c.index-place.result.now),
      long,
    )
    (log-pop _ _ _ _ c.self.invariant (subst P (sym c.self.view_is) c.requires) (rw long at c.index-place.ensures))
