-- What each step of the counts keeps, by the laws of the counts machine.
use Rattle.std.proofs.Common.{ℕ, refl, ◌∙◌}
use Rattle.std.proofs.lemmas.List.{length-replicate}
use Rattle.std.specs.Prelude.{replicate}
use Rattle.std.proofs.Common.{false}
use Rattle.hx_count.specs.Machine.{CountsState, account, counts_start, counts_step, IsAllowed}
use Rattle.hx_count.specs.declared.events.CountEvent.{CountEvent}
use Rattle.hx_count.proofs.MachineLaws.{step-budget, step-workers, start-bounded, start-in_budget, bounded-allowed, in-budget-step}
use Rattle.hx_core.specs.Runs.{AreCounts}

pub counts-begun : (workers budget words : ℕ) → AreCounts workers budget words (counts_start budget words workers)
counts-begun workers budget words = record {
  same_workers = length-replicate workers (account 0 false (replicate words 0));
  same_budget = refl;
  in_budget = start-in_budget budget words workers;
  bounded = start-bounded budget words workers;
}

pub counts-kept : (workers budget words : ℕ) (counts : CountsState) → AreCounts workers budget words counts → (event : CountEvent)
    → IsAllowed counts event
    → AreCounts workers budget words (counts_step counts event)
counts-kept workers budget words counts kept event allowed = record {
  same_workers = step-workers counts event ∙ kept.same_workers;
  same_budget = step-budget counts event ∙ kept.same_budget;
  in_budget = in-budget-step counts event allowed.0 kept.in_budget;
  bounded = bounded-allowed words counts event kept.bounded allowed;
}
