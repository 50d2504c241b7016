use Rattle.std.proofs.Common.{◌≡◌, ℕ, map, take, slice_index}
use Rattle.hx_linkset.proofs.renaming.names_of.Given as goal

abbrev pub invariant-loop-place : goal.invariant-loop-place
invariant-loop-place l = l.new.items ≡ map (λ (place : ℕ). slice_index l.names place) (take l.place-index l.places)
