-- What a tally tells as an account.
use Rattle.std.proofs.Common.{◌≡◌, ap, ◌∙◌, rules}
use Rattle.hx_limits.specs.declared.ran_out.RanOut.{RanOut}
use Rattle.hx_limits.specs.declared.ran_out.RanOut.TheVariants.{Budget, Slots, Memory}
use Rattle.hx_limits.specs.Tallies.{Tallied, counting, NoCountFalls}
use Rattle.hx_htp.specs.Accounts.{Continues}
use Rattle.hx_cmd_htp.specs.Sessions.{account_of}

-- a refusal that is counted changes neither the budget nor the slots
counting-budget : (why : RanOut) (tally : Tallied) → (counting why tally).budget ≡ tally.budget
counting-budget (Budget taken) tally = search rules
counting-budget (Slots refusal) tally = search rules
counting-budget Memory tally = search rules

counting-slots : (why : RanOut) (tally : Tallied) → (counting why tally).slots ≡ tally.slots
counting-slots (Budget taken) tally = search rules
counting-slots (Slots refusal) tally = search rules
counting-slots Memory tally = search rules

pub counting_continues : (why : RanOut) (before now : Tallied) → now ≡ counting why before → NoCountFalls before now
    → Continues (account_of before) (account_of now)
counting_continues why before now same later = record {
  budget = ap (λ (t : Tallied). t.budget) same ∙ counting-budget why before;
  slots = ap (λ (t : Tallied). t.slots) same ∙ counting-slots why before;
  budgets = later.budgets;
  proofs = later.proofs;
}
