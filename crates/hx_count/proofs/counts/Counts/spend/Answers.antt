use Rattle.std.proofs.Common.{◌≡◌, ℕ, ◌<◌, ◌≤◌, ap, sym, ◌∙◌, arith, Ok, Err}
use Rattle.hx_count.specs.Machine.{granted_to_all, with_unit, with_refusal}
use Rattle.hx_count.specs.declared.events.CountEvent.TheVariants.{Spend}
use Rattle.hx_count.specs.Counted.{IsSpend}
use Rattle.hx_count.specs.Seats.{Seat, Spends, state_seen, first_part, seat_of}
use Rattle.hx_count.proofs.SeatLaws.{Steps, may-spend, keeps-ok, keeps-err, own-granted, refused-granted, spends-ok, spends-err}
use Rattle.hx_count.proofs.SeatLaws.{steps-ok, steps-err, granted-err}
use Rattle.hx_count.proofs.counts.Counts.spend.Goals.{After-fetch_add-found}
use Rattle.hx_count.proofs.counts.Counts.spend.Goals as goal

pub returns-then-seat-clause-spent : goal.returns-then-seat-clause-spent
returns-then-seat-clause-spent c =
    let i = c.seat.invariant in let me = c.seat.inside.seat.me in
    let all = refused-granted me me c.seat.inside.granted c.seat.inside.held c.seat.inside.refused i (λ k. me.1) c.if-seat.true in (
      omega (arith, c.new.ensures, ap (λ w. w.limits.budget) c.self.view_is),
      omega (
        arith,
        all,
        ap (λ w. granted_to_all (state_seen w)) c.seat.view_is,
        ap (λ w. w.made.limits.budget) c.seat.view_is,
        ap (λ m. m.limits.budget) c.requires,
      ),
    )

pub fetch_add-found-requires : goal.fetch_add-found-requires
fetch_add-found-requires c =
    let i = c.seat.invariant in let o = c.self.invariant in (
      ap (λ w. w.made.table) c.seat.view_is ∙ (ap (λ m. m.table) c.requires ∙ sym (ap (λ w. w.table) c.self.view_is)),
      omega (arith, o.0),
      may-spend c.self.inside.table.shared.key c.self.inside.table.shared.table_id.slots c.seat.inside.seat.id c.seat.inside.seat.me
          c.seat.inside.granted c.seat.inside.held c.seat.inside.refused i c.if-seat.false,
    )

pub overflow_add-seat : goal.overflow_add-seat
overflow_add-seat c =
    let i = c.seat.invariant in let me = c.seat.inside.seat.me in let small = c.self.invariant.2 in
    let own = own-granted me me c.seat.inside.granted c.seat.inside.held c.seat.inside.refused i (λ k. me.1) in
    omega (
      arith,
      own,
      ap (λ w. w.made.limits.budget) c.seat.view_is,
      ap (λ m. m.limits.budget) c.requires,
      ap (λ w. w.limits.budget) c.self.view_is,
      small.budget,
    )

is_spend : (c : After-fetch_add-found) → IsSpend (first_part c.seat.inside.seat.me.0) c.fetch_add-found.result c.fetch_add-found.new.seat.me.0
is_spend c = c.fetch_add-found.ensures.2.1 _ (ap (λ m. m.0.parts) c.seat.invariant.whole)

same_budget : (c : After-fetch_add-found) → (first_part c.seat.inside.seat.me.0).limits.budget ≡ c.self.inside.limits.budget
same_budget c =
    ap (λ w. w.made.limits.budget) c.seat.view_is ∙ (ap (λ m. m.limits.budget) c.requires ∙ sym (ap (λ w. w.limits.budget) c.self.view_is))

abbrev new_seat : After-fetch_add-found → Seat
new_seat c = seat_of c.fetch_add-found.new.seat.table_id (first_part c.fetch_add-found.new.seat.me.0)

granted : (c : After-fetch_add-found) → c.fetch_add-found.result < c.self.inside.limits.budget
    → Spends c.args.seat.now (Ok tt) (new_seat c) × Steps (λ w. Spend w) with_unit c.args.seat.now (new_seat c)
granted c room =
    let less : c.fetch_add-found.result < (first_part c.seat.inside.seat.me.0).limits.budget = omega (arith, room, same_budget c) in
    let same = c.fetch_add-found.ensures.0 in let me = c.fetch_add-found.new.seat.me in let found = c.fetch_add-found.result in
    (spends-ok _ _ same _ me _ c.seat.view_is found (is_spend c) less, steps-ok _ _ same _ me _ c.seat.view_is found (is_spend c) less)

refused : (c : After-fetch_add-found) (taken : ℕ) → c.self.inside.limits.budget ≤ c.fetch_add-found.result
    → Spends c.args.seat.now (Err taken) (new_seat c) × Steps (λ w. Spend w) with_refusal c.args.seat.now (new_seat c)
refused c taken full =
    let most : (first_part c.seat.inside.seat.me.0).limits.budget ≤ c.fetch_add-found.result = omega (arith, full, same_budget c) in
    let same = c.fetch_add-found.ensures.0 in let me = c.fetch_add-found.new.seat.me in let found = c.fetch_add-found.result in
    (spends-err _ _ same _ me _ c.seat.view_is found taken (is_spend c) most, steps-err _ _ same _ me _ c.seat.view_is found (is_spend c) most)

pub invariant_of-seat : goal.invariant_of-seat
invariant_of-seat c =
    let found = (goal.at.invariant_of-seat c).After-fetch_add-found in
    keeps-ok _ _ _ _ _ c.seat.invariant c.fetch_add-found.ensures.2.0 c.fetch_add-found.result (is_spend found)
    (omega (arith, c.if-found-budget.true, same_budget found))

pub invariant_of-seat-2 : goal.invariant_of-seat-2
invariant_of-seat-2 c =
    let found = (goal.at.invariant_of-seat-2 c).After-fetch_add-found in
    keeps-err _ _ _ _ _ c.seat.invariant c.fetch_add-found.ensures.2.0 c.fetch_add-found.result (is_spend found)
    (omega (arith, c.if-found-budget.false, same_budget found))

pub returns-then-found-budget-clause-next : goal.returns-then-found-budget-clause-next
returns-then-found-budget-clause-next c _ =
    (granted (goal.at.returns-then-found-budget-clause-next c).After-fetch_add-found c.if-found-budget.true).0

pub returns-then-found-budget-clause-own : goal.returns-then-found-budget-clause-own
returns-then-found-budget-clause-own c =
    (granted (goal.at.returns-then-found-budget-clause-own c).After-fetch_add-found c.if-found-budget.true).1.own

pub returns-then-found-budget-clause-made : goal.returns-then-found-budget-clause-made
returns-then-found-budget-clause-made c =
    (granted (goal.at.returns-then-found-budget-clause-made c).After-fetch_add-found c.if-found-budget.true).1.made

pub returns-clause-next : goal.returns-clause-next
returns-clause-next c _ = (refused (goal.at.returns-clause-next c).After-fetch_add-found c.new-2.result c.if-found-budget.false).0

pub returns-clause-own : goal.returns-clause-own
returns-clause-own c = (refused (goal.at.returns-clause-own c).After-fetch_add-found c.new-2.result c.if-found-budget.false).1.own

pub returns-clause-made : goal.returns-clause-made
returns-clause-made c = (refused (goal.at.returns-clause-made c).After-fetch_add-found c.new-2.result c.if-found-budget.false).1.made

pub returns-clause-spent : goal.returns-clause-spent
returns-clause-spent c =
    let found = (goal.at.returns-clause-spent c).After-fetch_add-found in let same = same_budget found in
    let is : c.self.inside.limits.budget ≡ c.args.self.now.limits.budget = ap (λ w. w.limits.budget) c.self.view_is in (
      omega (arith, c.new-2.ensures, is),
      granted-err _ _ c.fetch_add-found.ensures.0 _ c.fetch_add-found.new.seat.me _ c.seat.view_is c.fetch_add-found.result (is_spend found)
          (omega (arith, c.if-found-budget.false, same)) ∙ (same ∙ is),
    )
