use Rattle.std.proofs.Common.{vec_capacity, arith}
use Rattle.hx_core.proofs.FieldLaws.{losses-few}
use Rattle.hx_core.proofs.states.State.losses.Goals as goal

pub held_by_all-requires : goal.held_by_all-requires
held_by_all-requires c =
    let few = losses-few c.self.inside.slots c.self.inside.nodes.items c.self.inside.seen.items c.self.inside.budget
    c.self.inside.accounts.items (vec_capacity c.self.inside.nodes) c.self.invariant c.args.word in
    rw c.as_slice.ensures.value (omega (arith, few))
