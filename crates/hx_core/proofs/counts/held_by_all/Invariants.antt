-- The holds so far.
use Rattle.std.proofs.Common.{◌≡◌, sum_by, take}
use Rattle.std.specs.Prelude.{slice_index}
use Rattle.hx_count.specs.Machine.{Account as Holding}
use Rattle.hx_core.proofs.counts.held_by_all.Given as goal

abbrev pub invariant-loop-account : goal.invariant-loop-account
invariant-loop-account l = l.held ≡ sum_by (λ (a : Holding). slice_index a.held l.word) (take l.account-index l.accounts)
