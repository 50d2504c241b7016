use Rattle.std.proofs.Common.{◌≡◌, ℕ, List, length}
use Rattle.hx_fill.specs.Unders.{IsSifted, AreSetsOf, NoneWaits}
use Rattle.hx_fill.proofs.unders.Sieve.go_on.Given as goal

abbrev pub invariant-loop-cell : goal.invariant-loop-cell
invariant-loop-cell l = record {
  same : l.self.cells ≡ l.fn.self.cells;
  sets : AreSetsOf l.self.cells l.self.without_line l.self.waiting;
  sifted : (order : List ℕ) → NoneWaits order (length order) l.fn.self.waiting
      → IsSifted l.both.position l.both.mover l.fn.self.cells order l.fn.self.choices l.fn.self.without_line l.fn.self.waiting
      l.fn.self.betters
      → NoneWaits order (length order) l.self.waiting
      × IsSifted l.both.position l.both.mover l.self.cells order l.self.choices l.self.without_line l.self.waiting l.self.betters;
}

abbrev pub decreases-loop-cell : goal.decreases-loop-cell
decreases-loop-cell l = l.self.waiting
