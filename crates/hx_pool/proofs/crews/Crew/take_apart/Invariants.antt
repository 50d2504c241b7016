use Rattle.std.proofs.Common.{◌≡◌, ◌+◌, ◌≤◌, All, vec_len, vec_capacity}
use Rattle.hx_pool.specs.Seats.{IsAfter}
use Rattle.hx_pool.specs.Parts.{HaveAllTried, IsEndOfSome}
use Rattle.hx_pool.proofs.crews.Crew.take_apart.Given as goal

abbrev pub invariant-loop-place : goal.invariant-loop-place
invariant-loop-place g l = record {
  books : vec_len l.places + vec_len l.parts.books ≡ vec_len l.fn.places;
  counts : vec_len l.places + vec_len l.parts.counts ≡ vec_len l.fn.places;
  ends : vec_len l.places + vec_len l.parts.ends ≡ vec_len l.fn.places;
  room_for_books : vec_len l.fn.places ≤ vec_capacity l.parts.books;
  room_for_counts : vec_len l.fn.places ≤ vec_capacity l.parts.counts;
  room_for_ends : vec_len l.fn.places ≤ vec_capacity l.parts.ends;
  left : All (IsAfter (g.E.Errand.proved l.self.errand.now) (g.E.Errand.tried l.self.errand.now) l.self.bench.now.shared.now.made
      l.self.bench.now.counts.now) l.places.items;
  same_book : All (λ s. s.made ≡ l.self.bench.now.shared.now.made) l.parts.books.items;
  same_counts : All (λ s. s.made ≡ l.self.bench.now.counts.now) l.parts.counts.items;
  some_ends : All (IsEndOfSome (g.E.Errand.proved l.self.errand.now) l.parts.books.items l.parts.counts.items)
      l.parts.ends.items;
  tried : HaveAllTried (g.E.Errand.tried l.self.errand.now) l.parts.counts.items l.parts.ends.items;
}

abbrev pub decreases-loop-place : goal.decreases-loop-place
decreases-loop-place g l = vec_len l.places
