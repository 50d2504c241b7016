-- The nodes before the place are right, and their headings are kept in the room that was taken for all of them.
use Rattle.std.proofs.Common.{◌≡◌, length, take, vec_len}
use Rattle.std.specs.Vec.{vec_capacity}
use Rattle.hx_tree.specs.Trees.{headings_of, AreRight}
use Rattle.hx_tree.proofs.trees.check_tree.Given as goal

abbrev pub invariant-loop-place : goal.invariant-loop-place
invariant-loop-place l = record {
  headings : l.before.items ≡ headings_of (take l.place l.nodes);
  count : vec_len l.before ≡ l.place;
  room : vec_capacity l.before ≡ length l.nodes;
  right : AreRight (take l.place l.nodes);
}
