use Rattle.std.proofs.Common.{◌≡◌, ℕ, map, take, slice_index}
use Rattle.hx_linkset.proofs.renaming.renamed_parts.Given as goal

abbrev pub invariant-loop-place : goal.invariant-loop-place
invariant-loop-place l = l.items.items ≡ map (λ (place : ℕ). slice_index l.names place) (take l.place-index l.parts)
