use Rattle.std.proofs.Common.{◌≡◌, ◌∙◌, ap, sym, arith, min, map}
use Rattle.std.specs.Prelude.{slice_index}
use Rattle.std.specs.Slots.{slots_items}
use Rattle.hx_count.specs.Seats.{part_of}
use Rattle.hx_count.proofs.Closing.{Ends, ended, held-words, few-held, held-seats, granted-seats, refused-seats, closed}
use Rattle.hx_count.proofs.Terms.{at-get}
use Rattle.hx_count.proofs.counts.Counts.close.Goals.{After-close_with-closed, After-min-granted}
use Rattle.hx_count.proofs.counts.Counts.close.Goals as goal

-- what the words and the seats that were given back say of the counts
ends : (c : After-close_with-closed)
    → Ends c.args.self.limits (slots_items c.close_with-closed.result.words) (map part_of c.args.seats.items)
ends c =
    ended c.self.inside.table.shared.key c.args.self.limits c.gather-seat.result.id c.gather-seat.result.me c.args.seats.items
    (slots_items c.close_with-closed.result.words) _ (c.self.invariant.1 ∙ ap (λ w. w.limits) c.self.view_is)
    c.gather-seat.ensures.parts c.close_with-closed.ensures.values.2

granted : (c : After-min-granted) → c.min-granted.result ≡ min (slice_index (slots_items c.close_with-closed.result.words) 0) c.args.self.limits.budget
granted c = c.min-granted.ensures ∙ λ k.
    min (sym (at-get (slots_items c.close_with-closed.result.words) 0 c.word.result 0 c.word.ensures) k) (ap (λ w. w.limits.budget) c.self.view_is k)

pub sum_of_losses-held-requires-clause-small : goal.sum_of_losses-held-requires-clause-small
sum_of_losses-held-requires-clause-small c =
    let e = ends (goal.at.sum_of_losses-held-requires-clause-small c).After-close_with-closed in
    omega (
      arith,
      held-words _ _ _ e,
      few-held _ _ _ e,
      c.self.invariant.2.workers,
      ap (λ w. w.limits.workers) c.self.view_is,
    )

pub free-requires : goal.free-requires
free-requires c k less = absurd (omega (arith, less, c.close_with-closed.ensures.counts.1, c.self.invariant.4))

pub returns-clause-history : goal.returns-clause-history
returns-clause-history c =
    closed c.args.self c.args.seats.items _ (ends (goal.at.returns-clause-history c).After-close_with-closed) _ _
    (granted (goal.at.returns-clause-history c).After-min-granted) c.sum_of_losses-held.ensures

pub returns-clause-granted : goal.returns-clause-granted
returns-clause-granted c =
    let is = granted (goal.at.returns-clause-granted c).After-min-granted in
    let e = ends (goal.at.returns-clause-granted c).After-close_with-closed in
    (is ∙ granted-seats c.args.self c.args.seats.items _ e c.requires.all, omega (arith, is))

pub returns-clause-held : goal.returns-clause-held
returns-clause-held c =
    c.sum_of_losses-held.ensures
    ∙ held-seats c.args.self c.args.seats.items _ (ends (goal.at.returns-clause-held c).After-close_with-closed) c.requires.all

pub returns-clause-refused : goal.returns-clause-refused
returns-clause-refused c some_refused =
    granted (goal.at.returns-clause-refused c).After-min-granted
    ∙ refused-seats c.args.self c.args.seats.items _ (ends (goal.at.returns-clause-refused c).After-close_with-closed) c.requires.all
    some_refused
