-- The units so far.
use Rattle.std.proofs.Common.{◌≡◌, sum_by, take}
use Rattle.hx_count.specs.Machine.{Account as Holding}
use Rattle.hx_core.proofs.counts.granted_to_all.Given as goal

abbrev pub invariant-loop-account : goal.invariant-loop-account
invariant-loop-account l = l.granted ≡ sum_by (λ (a : Holding). a.granted) (take l.account-index l.accounts)
