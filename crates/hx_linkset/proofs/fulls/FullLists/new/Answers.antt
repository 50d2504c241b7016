-- Each list is empty, and so is one more.
use Rattle.std.proofs.Common.{◌≡◌, ℕ, zero, suc, List, [], ◌∷◌, ◌++◌, refl, ap, ◌∙◌, get_or, arith, length-append}
use Rattle.std.proofs.lemmas.List.{map-append}
use Rattle.hx_linkset.specs.declared.fulls.FullLink.{FullLink}
use Rattle.hx_linkset.specs.Fulls.{contents_of}
use Rattle.hx_linkset.proofs.fulls.FullLists.new.Goals as goal

none-more : (lists : List (List FullLink)) → ((k : ℕ) → get_or lists k [] ≡ []) → (k : ℕ) → get_or (lists ++ [] ∷ []) k [] ≡ []
none-more [] none zero = refl
none-more [] none (suc k) = refl
none-more (list ∷ lists) none zero = none zero
none-more (list ∷ lists) none (suc k) = none-more lists (λ j. none (suc j)) k

pub loop-vertex-preserved : goal.loop-vertex-preserved
loop-vertex-preserved c = rw c.push_reserved.ensures.items record {
  so_far = simp length-append (omega (arith, c.loop-vertex.invariant.so_far));
  none = λ k.
      let more : contents_of (c.loop-vertex.lists.items ++ c.new.result ∷ []) ≡ contents_of c.loop-vertex.lists.items ++ [] ∷ [] =
      map-append _ c.loop-vertex.lists.items (c.new.result ∷ [])
      ∙ ap (λ (list : List FullLink). contents_of c.loop-vertex.lists.items ++ list ∷ []) c.new.ensures.items in
      rw more (none-more (contents_of c.loop-vertex.lists.items) c.loop-vertex.invariant.none k);
  room = omega (arith, c.loop-vertex.invariant.room, c.push_reserved.ensures.capacity);
}
