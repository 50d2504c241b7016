-- The kept links before the place are not touched.
use Rattle.std.proofs.Common.{◌≡◌, ℕ, ◌<◌, false}
use Rattle.hx_link.specs.declared.links.Link.{Link}
use Rattle.hx_play.specs.Kept.{IsKept, touches}
use Rattle.hx_play.proofs.kept.touched_link.Given as goal

abbrev pub invariant-loop-place : goal.invariant-loop-place
invariant-loop-place l = (p : ℕ) (link : Link) → p < l.place → IsKept l.links l.marks p link → touches l.stone link.carrier ≡ false
