-- The threats before the place have the cell.
use Rattle.std.proofs.Common.{◌≡◌, ℕ, true, take, Some}
use Rattle.std.specs.Prelude.{Contains, slice_get}
use Rattle.hx_board.specs.Sets.{has}
use Rattle.hx_link.specs.declared.links.Link.{Link}
use Rattle.hx_play.proofs.stands.threat_without.Given as goal

abbrev pub invariant-loop-place : goal.invariant-loop-place
invariant-loop-place l =
    (p : ℕ) → Contains (take l.place-index l.threats) p → (link : Link) → slice_get l.links p ≡ Some link → has link.carrier l.cell ≡ true
