use Rattle.std.specs.Vec.Iter.{into_iter_items, into_iter_len}
use Rattle.hx_book.specs.Renaming.{IsRest, AreKeptBelow}
use Rattle.hx_book.proofs.trees.kept_of.Given as goal

abbrev pub invariant-loop-entry : goal.invariant-loop-entry
invariant-loop-entry l = record {
  rest : IsRest l.fn.nodes.items l.place (into_iter_items l.rest);
  kept : AreKeptBelow l.fn.nodes.items l.root l.marks l.place l.kept.nodes.items l.kept.names.items;
}

abbrev pub decreases-loop-entry : goal.decreases-loop-entry
decreases-loop-entry l = into_iter_len l.rest
