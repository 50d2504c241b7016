-- No link before the place is kept.
use Rattle.std.proofs.Common.{ℕ, ◌<◌}
use Rattle.hx_link.specs.declared.links.Link.{Link}
use Rattle.hx_play.specs.Kept.{IsKept}
use Rattle.hx_play.proofs.kept.first_link.Given as goal

abbrev pub invariant-loop-place : goal.invariant-loop-place
invariant-loop-place l = (p : ℕ) (link : Link) → p < l.place → IsKept l.links l.marks p link → ⊥
