use Rattle.std.proofs.Common.{◌<◌, ap, refl, arith}
use Rattle.std.specs.Prelude.{slice_index}
use Rattle.hx_count.specs.Machine.{releasing}
use Rattle.hx_count.specs.declared.events.CountEvent.TheVariants.{Release}
use Rattle.hx_count.specs.Counted.{IsNext}
use Rattle.hx_count.specs.Seats.{own, first_part, seat_of}
use Rattle.hx_count.proofs.SeatLaws.{Steps, seat-fits, may-release, steps-release, keeps-release}
use Rattle.hx_count.proofs.counts.Counts.release.Goals.{After-fetch_sub}
use Rattle.hx_count.proofs.counts.Counts.release.Goals as goal

pub fetch_sub-requires : goal.fetch_sub-requires
fetch_sub-requires c =
    let fits = seat-fits c.args.word c.self.view_is c.self.invariant.1 c.self.invariant.0 c.seat.view_is c.requires.seat c.requires.word in (
      fits.0,
      fits.1,
      may-release c.self.inside.table.shared.key c.self.inside.table.shared.table_id.slots c.seat.inside.seat.id _ _ _ _ c.seat.invariant
          c.args.word fits.2 (omega (arith, c.requires.held, ap (λ w. slice_index (own w).held c.args.word) c.seat.view_is)),
    )

is_next : (c : After-fetch_sub)
    → IsNext (first_part c.seat.inside.seat.me.0) (Release (first_part c.seat.inside.seat.me.0).worker c.args.word)
    c.fetch_sub.new.seat.me.0
is_next c = c.fetch_sub.ensures.2.1 _ c.args.word (ap (λ m. m.0.parts) c.seat.invariant.whole) refl

steps : (c : After-fetch_sub) → Steps (λ w. Release w c.args.word) (releasing c.args.word) c.args.seat.now
    (seat_of c.fetch_sub.new.seat.table_id (first_part c.fetch_sub.new.seat.me.0))
steps c = steps-release _ _ c.fetch_sub.ensures.0 _ c.fetch_sub.new.seat.me _ c.seat.view_is c.args.word (is_next c)

pub invariant_of-seat : goal.invariant_of-seat
invariant_of-seat c =
    keeps-release _ _ _ _ _ c.seat.invariant c.fetch_sub.ensures.2.0 c.args.word
    (omega (arith, c.requires.held, ap (λ w. slice_index (own w).held c.args.word) c.seat.view_is))
    (is_next (goal.at.invariant_of-seat c).After-fetch_sub)

pub returns-clause-next : goal.returns-clause-next
returns-clause-next c = (steps (goal.at.returns-clause-next c).After-fetch_sub).next

pub returns-clause-own : goal.returns-clause-own
returns-clause-own c = (steps (goal.at.returns-clause-own c).After-fetch_sub).own

pub returns-clause-made : goal.returns-clause-made
returns-clause-made c = (steps (goal.at.returns-clause-made c).After-fetch_sub).made
