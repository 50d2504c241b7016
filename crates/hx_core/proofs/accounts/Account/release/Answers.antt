use Rattle.std.proofs.Common.{ℕ, ◌-◌, List, ap}
use Rattle.hx_count.specs.Machine.{account}
use Rattle.hx_core.proofs.ListChanges.{positive-lt, set-changed}
use Rattle.hx_core.proofs.accounts.Account.release.Goals as goal

pub returns : goal.returns
returns c =
    rw (← c.self.view_is) (ap (λ (held : List ℕ). account c.self.inside.granted c.self.inside.refused held)
    (set-changed (λ (n : ℕ). n - 1) c.self.inside.held.items c.args.word c.index_mut.result.now
    (positive-lt c.self.inside.held.items c.args.word (rw (← c.self.view_is) at c.requires)) c.index_mut.ensures.value))
