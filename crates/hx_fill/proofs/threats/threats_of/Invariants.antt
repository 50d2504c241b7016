use Rattle.hx_fill.specs.Musts.{AreKept}
use Rattle.hx_fill.proofs.ThreatLaws.{AreInFirst}
use Rattle.hx_fill.proofs.threats.threats_of.Given as goal

abbrev pub invariant-loop-link : goal.invariant-loop-link
invariant-loop-link l = record {
  threats : AreKept l.set l.found.places.items l.found.cells;
  seen : AreInFirst l.set l.link-items l.link-index l.found.cells;
}
