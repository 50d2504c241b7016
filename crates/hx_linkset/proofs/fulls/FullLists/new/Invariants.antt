use Rattle.std.proofs.Common.{◌≡◌, ℕ, [], ◌≤◌, length, get_or, vec_capacity}
use Rattle.hx_linkset.specs.Fulls.{contents_of}
use Rattle.hx_linkset.proofs.fulls.FullLists.new.Given as goal

abbrev pub invariant-loop-vertex : goal.invariant-loop-vertex
invariant-loop-vertex l = record {
  so_far : length l.lists.items ≡ l._vertex;
  none : (k : ℕ) → get_or (contents_of l.lists.items) k [] ≡ [];
  room : 123 ≤ vec_capacity l.lists;
}
