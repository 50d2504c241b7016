-- No node so far is of the position and mover.
use Rattle.std.proofs.Common.{ℕ, ◌<◌}
use Rattle.hx_tree.specs.Entries.{IsEntry}
use Rattle.hx_core.proofs.books.find.Given as goal

abbrev pub invariant-loop-index : goal.invariant-loop-index
invariant-loop-index l = (place : ℕ) → place < l.index → IsEntry l.nodes l.position l.to_move place → ⊥
