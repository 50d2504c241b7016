use Rattle.std.proofs.Common.{arith, ap, ◌≡◌, ◌∙◌, [], ◌++◌, drop, length, take}
use Rattle.std.proofs.Math.Seq.{take-append_seam}
use Rattle.std.proofs.lemmas.List.{length-replicate}
use Rattle.hx_count.specs.declared.views.Limits.{Limits}
use Rattle.hx_count.proofs.DealLaws.{length-new}
use Rattle.hx_share.specs.Readers.{reader}
use Rattle.hx_pool.proofs.ClosedEnds.{contained-closed, tried-closed}
use Rattle.hx_pool.proofs.searches.run_with_zones.Goals as goal

pub deal-requires-clause-len : goal.deal-requires-clause-len
deal-requires-clause-len g c =
    let books = c.in_ok-shared.ensures.seats in let counts = c.in_ok-counts.ensures.seats in
    omega (
      arith,
      c.in_ok-shared.books.ok,
      c.in_ok-counts.count_seats.ok,
      ap length books,
      length-replicate c.args.settings.now.workers (reader c.in_ok-shared.shared.made []),
      ap length counts,
      length-new c.in_ok-counts.counts 0 c.args.settings.now.workers,
    )

pub take_apart-parts-requires-clause-after : goal.take_apart-parts-requires-clause-after
take_apart-parts-requires-clause-after g c κs within =
    let dealt = c.in_ok-places.places in let worked = c.work_all.new.places in let rest = drop (length worked) dealt.items in
    let as_many : dealt.len ≡ length worked = omega (arith, c.work_all.ensures.len, c.deref_mut.ensures.len) in
    let same : take dealt.len (worked ++ rest) ≡ worked = rw as_many (take-append_seam worked rest) in
    rw same c.work_all.ensures.after

pub returns : goal.returns
returns g c =
    let parts = c.take_apart-parts.result in let book = c.close-book.ensures in
    let errand = c.args.errand.now in let proved = g.E.Errand.proved errand in let tried = g.E.Errand.tried errand in
    let settings = c.args.settings.now in
    let laws = g.met.E.Errand g.world.𝓛 g.world.𝓜 g.world.𝓡 ((λ s x. x), (λ x. x), (λ x. x), λ x. x) in
    let ended = contained-closed proved (laws.stays errand) settings c.in_ok-shared.shared.made c.in_ok-counts.counts
    parts.books.items parts.counts.items parts.ends.items c.foremost-end.result c.close-book.result c.close-totals.result.granted
    c.in_ok-shared.ensures.limits.0 (ap (λ (l : Limits). l.budget) c.in_ok-counts.ensures.limits) c.take_apart-parts.ensures.books
    c.take_apart-parts.ensures.counts c.take_apart-parts.ensures.ends c.foremost-end.ensures.one
    c.keeps.ensures.book book.slots book.seen c.close-totals.ensures.refused in record {
      is_book = c.keeps.ensures.book;
      slots = book.slots ∙ c.in_ok-shared.ensures.limits.0;
      ended = ended;
      has_tried = tried-closed proved tried settings parts.counts.items parts.ends.items c.foremost-end.result
          c.close-book.result.nodes c.close-totals.result.granted c.take_apart-parts.ensures.tried c.foremost-end.ensures.first ended
          c.close-totals.ensures.granted.0;
    }
