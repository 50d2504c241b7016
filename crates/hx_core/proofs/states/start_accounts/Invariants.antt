-- The accounts so far.
use Rattle.std.proofs.Common.{◌≡◌, false}
use Rattle.std.specs.Prelude.{replicate}
use Rattle.hx_count.specs.Machine.{account}
use Rattle.hx_core.proofs.states.start_accounts.Given as goal

abbrev pub invariant-loop : goal.invariant-loop
invariant-loop l = l.accounts.items ≡ replicate l.counter (account 0 false (replicate l.words 0))
