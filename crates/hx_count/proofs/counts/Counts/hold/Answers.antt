use Rattle.std.proofs.Common.{ap, refl, arith}
use Rattle.hx_count.specs.Machine.{held_in_all, holding}
use Rattle.hx_count.specs.declared.events.CountEvent.TheVariants.{Hold}
use Rattle.hx_count.specs.Counted.{IsNext}
use Rattle.hx_count.specs.Seats.{own, first_part, seat_of}
use Rattle.hx_count.proofs.SeatLaws.{Steps, seat-fits, may-hold, steps-hold, held-hold, keeps-hold}
use Rattle.hx_count.proofs.counts.Counts.hold.Goals.{After-fetch_add}
use Rattle.hx_count.proofs.counts.Counts.hold.Goals as goal

pub fetch_add-requires : goal.fetch_add-requires
fetch_add-requires c =
    let fits = seat-fits c.args.word c.self.view_is c.self.invariant.1 c.self.invariant.0 c.seat.view_is c.requires.seat c.requires.word in (
      fits.0,
      fits.1,
      may-hold c.self.inside.table.shared.key c.self.inside.table.shared.table_id.slots c.seat.inside.seat.id _ _ _ _ c.seat.invariant
          c.args.word fits.2 (omega (arith, c.requires.room, ap (λ w. held_in_all (own w)) c.seat.view_is)),
    )

is_next : (c : After-fetch_add)
    → IsNext (first_part c.seat.inside.seat.me.0) (Hold (first_part c.seat.inside.seat.me.0).worker c.args.word) c.fetch_add.new.seat.me.0
is_next c = c.fetch_add.ensures.2.1 _ c.args.word (ap (λ m. m.0.parts) c.seat.invariant.whole) refl

steps : (c : After-fetch_add) → Steps (λ w. Hold w c.args.word) (holding c.args.word) c.args.seat.now
    (seat_of c.fetch_add.new.seat.table_id (first_part c.fetch_add.new.seat.me.0))
steps c = steps-hold _ _ c.fetch_add.ensures.0 _ c.fetch_add.new.seat.me _ c.seat.view_is c.args.word (is_next c)

pub invariant_of-seat : goal.invariant_of-seat
invariant_of-seat c =
    keeps-hold _ _ _ _ _ c.seat.invariant c.fetch_add.ensures.2.0 c.args.word (is_next (goal.at.invariant_of-seat c).After-fetch_add)

pub returns-clause-next : goal.returns-clause-next
returns-clause-next c = (steps (goal.at.returns-clause-next c).After-fetch_add).next

pub returns-clause-own : goal.returns-clause-own
returns-clause-own c = (steps (goal.at.returns-clause-own c).After-fetch_add).own

pub returns-clause-held : goal.returns-clause-held
returns-clause-held c =
    held-hold _ _ c.fetch_add.ensures.0 _ c.fetch_add.new.seat.me _ c.seat.view_is c.args.word (is_next (goal.at.returns-clause-held c).After-fetch_add)

pub returns-clause-made : goal.returns-clause-made
returns-clause-made c = (steps (goal.at.returns-clause-made c).After-fetch_add).made
