-- The headings so far.
use Rattle.std.proofs.Common.{◌≡◌, take}
use Rattle.hx_tree.specs.Trees.{headings_of}
use Rattle.hx_core.proofs.machines.headings.Given as goal

abbrev pub invariant-loop-node : goal.invariant-loop-node
invariant-loop-node l = l.headings.items ≡ headings_of (take l.node-index l.nodes)
