use Rattle.std.proofs.Common.{arith, ◌≡◌, length, Some}
use Rattle.std.proofs.lemmas.List.Elements.{All-pop, All-push}
use Rattle.hx_count.specs.Seats.{Seat}
use Rattle.hx_share.specs.Readers.{Reader}
use Rattle.hx_pool.specs.Seats.{IsAfter}
use Rattle.hx_pool.proofs.PartedEnds.{after-done, ends-more, tried-more}
use Rattle.hx_pool.proofs.crews.Crew.take_apart.Goals as goal

pub loop-place-preserved : goal.loop-place-preserved
loop-place-preserved g c =
    let i = c.loop-place.invariant in let d = c.in-Some.ensures in
    let b = c.push_reserved.ensures in let s = c.push_reserved-in-Some.ensures in let e = c.push_reserved-in-Some-2.ensures in
    let errand = c.args.self.now.errand.now in let bench = c.args.self.now.bench.now in
    let proved = g.E.Errand.proved errand in let tried = g.E.Errand.tried errand in
    let parts = c.loop-place.parts in let done = c.in-After.done in
    let last = after-done proved tried bench.shared.now.made bench.counts.now c.in-Some.place done c.in-After.is
    (All-pop (IsAfter proved tried bench.shared.now.made bench.counts.now) _ _ (Some c.in-Some.place) d.items i.left).1 in
    let as_many : length parts.books.items ≡ length parts.counts.items =
    omega (arith, i.books, i.counts, parts.books.ok, parts.counts.ok) in record {
      books = omega (arith, i.books, d.cases, b.len);
      counts = omega (arith, i.counts, d.cases, s.len);
      ends = omega (arith, i.ends, d.cases, e.len);
      room_for_books = omega (arith, i.room_for_books, b.capacity);
      room_for_counts = omega (arith, i.room_for_counts, s.capacity);
      room_for_ends = omega (arith, i.room_for_ends, e.capacity);
      left = (All-pop (IsAfter proved tried bench.shared.now.made bench.counts.now) _ _ (Some c.in-Some.place) d.items i.left).0;
      same_book = rw b.items
          (All-push (λ (s : Reader). s.made ≡ bench.shared.now.made) parts.books.items done.book i.same_book last.same_book);
      same_counts = rw s.items
          (All-push (λ (s : Seat). s.made ≡ bench.counts.now) parts.counts.items done.counts i.same_counts last.same_counts);
      some_ends = rw (b.items, s.items, e.items)
          (ends-more proved parts.books.items parts.counts.items done.book done.counts parts.ends.items done.end as_many
          i.some_ends last.ended);
      tried = rw (s.items, e.items)
          (tried-more tried parts.counts.items done.counts parts.ends.items done.end i.tried last.has_tried);
    }
