use Rattle.hx_book.specs.Sights.{Grows}
use Rattle.hx_widen.specs.Inner.{AreKnown}
use Rattle.hx_widen.proofs.lines.lines_at.Given as goal

abbrev pub invariant-loop-cell : goal.invariant-loop-cell
invariant-loop-cell g l = record {
  grew : Grows (g.P.Proofs.sight l.fn.proofs) (g.P.Proofs.sight l.proofs);
  known : AreKnown (g.P.Proofs.sight l.proofs).list l.known.headings.items l.known.places.items;
}
