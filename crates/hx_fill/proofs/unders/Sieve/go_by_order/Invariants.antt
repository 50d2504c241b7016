use Rattle.std.proofs.Common.{◌≡◌}
use Rattle.hx_fill.specs.Unders.{IsSifted, NoneWaits}
use Rattle.hx_fill.proofs.unders.Sieve.go_by_order.Given as goal

abbrev pub invariant-loop-cell : goal.invariant-loop-cell
invariant-loop-cell l = record {
  same : l.self.cells ≡ l.fn.self.cells;
  sifted : IsSifted l.both.position l.both.mover l.self.cells l.order l.self.choices l.self.without_line l.self.waiting l.self.betters;
  none_waits : NoneWaits l.order l.cell-index l.self.waiting;
}
