use Rattle.std.proofs.Common.{◌≡◌, take}
use Rattle.hx_tree.specs.Trees.{headings_of}
use Rattle.hx_naming.proofs.added.headings_of.Given as goal

abbrev pub invariant-loop-entry : goal.invariant-loop-entry
invariant-loop-entry l = l.headings.items ≡ headings_of (take l.entry-index l.nodes)
