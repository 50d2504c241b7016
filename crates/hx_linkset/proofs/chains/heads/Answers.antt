-- Each head comes to its own place.
use Rattle.std.proofs.Common.{◌≡◌, ℕ, ◌+◌, ◌<◌, List, [], ◌∷◌, ◌++◌, arith, length-append}
use Rattle.std.proofs.lemmas.Grind.{common_steps}
use Rattle.std.specs.Prelude.{slice_index}
use Rattle.hx_linkset.specs.Held.{LeadToThemselves}
use Rattle.hx_linkset.proofs.chains.heads.Goals as goal

one-more : (nodes : List ℕ) (size : ℕ) → LeadToThemselves size nodes → (node : ℕ) → node < size + 1
    → slice_index (nodes ++ size ∷ []) node ≡ node
one-more nodes size lead node less =
    let long = lead.long in
    let each : node < size → slice_index nodes node ≡ node = lead.each node in
    grind (arith, common_steps)

themselves-more : (nodes : List ℕ) (size : ℕ) → LeadToThemselves size nodes → LeadToThemselves (size + 1) (nodes ++ size ∷ [])
themselves-more nodes size lead = record {
  long = simp length-append (omega (arith, lead.long));
  each = one-more nodes size lead;
}

pub loop-head-preserved : goal.loop-head-preserved
loop-head-preserved c = rw c.push_reserved.ensures.items record {
  so_far = themselves-more c.loop-head.heads.items c.loop-head.head c.loop-head.invariant.so_far;
  room = omega (arith, c.loop-head.invariant.room, c.push_reserved.ensures.capacity);
}
