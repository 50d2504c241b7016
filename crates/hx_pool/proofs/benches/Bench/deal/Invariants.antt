use Rattle.std.proofs.Common.{◌≡◌, ◌+◌, ◌≤◌, All, vec_len, vec_capacity}
use Rattle.hx_count.specs.Machine.{HasNothing}
use Rattle.hx_count.specs.Seats.{own}
use Rattle.hx_pool.specs.Seats.{IsBefore}
use Rattle.hx_pool.proofs.benches.Bench.deal.Given as goal

abbrev pub invariant-loop-book : goal.invariant-loop-book
invariant-loop-book g l = record {
  same : vec_len l.books ≡ vec_len l.counts;
  dealt : vec_len l.books + vec_len l.dealt ≡ vec_len l.fn.books;
  room : vec_len l.fn.books ≤ vec_capacity l.dealt;
  books : All (λ s. s.made ≡ l.self.shared.now.made) l.books.items;
  counts : All (λ s. s.made ≡ l.self.counts.now) l.counts.items;
  nothing : All (λ s. HasNothing (own s)) l.counts.items;
  seats : All (IsBefore l.self.shared.now.made l.self.counts.now) l.dealt.items;
}

abbrev pub decreases-loop-book : goal.decreases-loop-book
decreases-loop-book g l = vec_len l.books
