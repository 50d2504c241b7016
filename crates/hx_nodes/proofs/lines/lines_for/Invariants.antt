use Rattle.hx_tree.specs.Trees.{headings_of}
use Rattle.hx_book.specs.Sights.{Grows}
use Rattle.hx_nodes.specs.Lines.{wins_next, AreGathered}
use Rattle.hx_nodes.proofs.lines.lines_for.Given as goal

abbrev pub invariant-loop-cell : goal.invariant-loop-cell
invariant-loop-cell g l = record {
  grew : Grows (g.P.Proofs.sight l.fn.proofs) (g.P.Proofs.sight l.proofs);
  gathered : AreGathered (headings_of (g.P.Proofs.sight l.proofs).list)
      (wins_next l.fn.position l.fn.winner) l.fn.cells l.cell-iterator.cells l.fn.under l.lines.items;
}
