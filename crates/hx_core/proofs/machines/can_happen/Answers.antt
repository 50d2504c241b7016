use Rattle.hx_core.proofs.machines.can_happen.Goals as goal

pub returns-in-Store : goal.returns-in-Store
returns-in-Store c = rw c.in-Store.is c.can_store.ensures
