use Rattle.std.proofs.Common.{arith, ◌≡◌, Some}
use Rattle.std.proofs.lemmas.List.Elements.{All-pop, All-push}
use Rattle.hx_count.specs.Machine.{HasNothing}
use Rattle.hx_count.specs.Seats.{Seat, own}
use Rattle.hx_share.specs.Readers.{Reader}
use Rattle.hx_pool.specs.Seats.{IsBefore}
use Rattle.hx_pool.proofs.benches.Bench.deal.Goals as goal

pub loop-book-preserved : goal.loop-book-preserved
loop-book-preserved g c =
    let i = c.loop-book.invariant in let b = c.in-Some.ensures in let s = c.in-Some-pop.ensures in let p = c.push_reserved.ensures in
    let same_book = (All-pop (λ (s : Reader). s.made ≡ c.args.self.now.shared.now.made) _ _ (Some c.in-Some.book) b.items i.books).1 in
    let same_counts = (All-pop (λ (s : Seat). s.made ≡ c.args.self.now.counts.now) _ _ (Some c.in-Some-pop.seat) s.items i.counts).1 in
    let nothing = (All-pop (λ (s : Seat). HasNothing (own s)) _ _ (Some c.in-Some-pop.seat) s.items i.nothing).1 in record {
      same = omega (arith, i.same, b.cases, s.cases);
      dealt = omega (arith, i.dealt, b.cases, p.len);
      room = omega (arith, i.room, p.capacity);
      books = (All-pop (λ (s : Reader). s.made ≡ c.args.self.now.shared.now.made) _ _ (Some c.in-Some.book) b.items i.books).0;
      counts = (All-pop (λ (s : Seat). s.made ≡ c.args.self.now.counts.now) _ _ (Some c.in-Some-pop.seat) s.items i.counts).0;
      nothing = (All-pop (λ (s : Seat). HasNothing (own s)) _ _ (Some c.in-Some-pop.seat) s.items i.nothing).0;
      seats = rw p.items (All-push (IsBefore c.args.self.now.shared.now.made c.args.self.now.counts.now) _ _ i.seats
          (record { same_book = same_book; same_counts = same_counts; nothing = nothing }));
    }
