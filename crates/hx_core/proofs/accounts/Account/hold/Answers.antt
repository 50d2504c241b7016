use Rattle.std.proofs.Common.{ℕ, ◌+◌, List, ap}
use Rattle.hx_count.specs.Machine.{account}
use Rattle.hx_core.proofs.ListChanges.{set-changed}
use Rattle.hx_core.proofs.accounts.Account.hold.Goals as goal

pub returns : goal.returns
returns c =
    rw (← c.self.view_is) (ap (λ (held : List ℕ). account c.self.inside.granted c.self.inside.refused held)
    (set-changed (λ (n : ℕ). n + 1) c.self.inside.held.items c.args.word c.index_mut.result.now
    (rw (← c.self.view_is) at c.requires.inside) c.index_mut.ensures.value))
