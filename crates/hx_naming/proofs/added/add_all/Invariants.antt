use Rattle.std.proofs.Common.{◌≡◌}
use Rattle.hx_tree.specs.Trees.{headings_of}
use Rattle.hx_naming.specs.Added.{IsMore}
use Rattle.hx_naming.proofs.added.add_all.Given as goal

abbrev pub invariant-loop-node : goal.invariant-loop-node
invariant-loop-node l =
    (goal.iterator-loop-node).can_next l.node-iterator ×
    (goal.iterator-loop-node).is_finite l.node-iterator ×
    IsMore l.fn.must_be_plain l.fn.nodes.items l.nodes.items ×
    (l.headings.items ≡ headings_of l.nodes.items)
