use Rattle.std.proofs.Common.{ap, refl}
use Rattle.hx_count.specs.Machine.{Account}
use Rattle.hx_count.specs.declared.events.CountEvent.TheVariants.{Look}
use Rattle.hx_count.specs.Counted.{IsLook}
use Rattle.hx_count.specs.Seats.{first_part, seat_of}
use Rattle.hx_count.proofs.SeatLaws.{Steps, seat-fits, may-look, keeps-look, steps-look, sum-look, least-look}
use Rattle.hx_count.proofs.counts.Counts.losses.Goals.{After-load}
use Rattle.hx_count.proofs.counts.Counts.losses.Goals as goal

pub load-requires : goal.load-requires
load-requires c =
    let fits = seat-fits c.args.word c.self.view_is c.self.invariant.1 c.self.invariant.0 c.seat.view_is c.requires.seat c.requires.word in (
      fits.0,
      fits.1,
      may-look c.self.inside.table.shared.key c.self.inside.table.shared.table_id.slots c.seat.inside.seat.id _ _ _ _ c.seat.invariant
          c.args.word fits.2,
    )

is_look : (c : After-load) → IsLook (first_part c.seat.inside.seat.me.0) c.args.word c.load.result c.load.new.seat.me.0
is_look c = c.load.ensures.2.1 _ c.args.word (ap (λ m. m.0.parts) c.seat.invariant.whole) refl

steps : (c : After-load) → Steps (λ w. Look w c.args.word) (λ (a : Account). a) c.args.seat.now
    (seat_of c.load.new.seat.table_id (first_part c.load.new.seat.me.0))
steps c = steps-look _ _ c.load.ensures.0 _ c.load.new.seat.me _ c.seat.view_is c.args.word c.load.result (is_look c)

pub invariant_of-seat : goal.invariant_of-seat
invariant_of-seat c =
    keeps-look _ _ _ _ _ c.seat.invariant c.load.ensures.2.0 c.args.word c.load.result (is_look (goal.at.invariant_of-seat c).After-load)

pub returns-clause-next : goal.returns-clause-next
returns-clause-next c = (steps (goal.at.returns-clause-next c).After-load).next

pub returns-clause-own : goal.returns-clause-own
returns-clause-own c = (steps (goal.at.returns-clause-own c).After-load).own

pub returns-clause-sum : goal.returns-clause-sum
returns-clause-sum c =
    sum-look _ _ c.load.ensures.0 _ c.load.new.seat.me _ c.seat.view_is c.args.word c.load.result (is_look (goal.at.returns-clause-sum c).After-load)

pub returns-clause-least : goal.returns-clause-least
returns-clause-least c =
    least-look _ _ c.load.ensures.0 _ c.load.new.seat.me _ c.seat.view_is c.args.word c.load.result (is_look (goal.at.returns-clause-least c).After-load)

pub returns-clause-made : goal.returns-clause-made
returns-clause-made c = (steps (goal.at.returns-clause-made c).After-load).made
