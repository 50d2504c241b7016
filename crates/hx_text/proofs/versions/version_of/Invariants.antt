-- No node before the place is turned.
use Rattle.std.proofs.Common.{ℕ, ◌<◌}
use Rattle.std.specs.Prelude.{slice_get, IsSomeAnd}
use Rattle.hx_text.specs.Versions.{IsTurnedNode}
use Rattle.hx_text.proofs.versions.version_of.Given as goal

abbrev pub invariant-loop-node : goal.invariant-loop-node
invariant-loop-node l = (k : ℕ) → k < l.node-index → IsSomeAnd (slice_get l.nodes k) IsTurnedNode → ⊥
