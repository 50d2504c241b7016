-- The parts before the place are touched.
use Rattle.std.proofs.Common.{◌≡◌, ℕ, true, take, Some}
use Rattle.std.specs.Prelude.{Contains, slice_get}
use Rattle.hx_link.specs.declared.links.Link.{Link}
use Rattle.hx_play.specs.Kept.{touches}
use Rattle.hx_play.proofs.kept.spared_part.Given as goal

abbrev pub invariant-loop-place : goal.invariant-loop-place
invariant-loop-place l = (p : ℕ) → Contains (take l.place-index l.parts) p → (link : Link) → slice_get l.links p ≡ Some link
    → touches l.stone link.carrier ≡ true
