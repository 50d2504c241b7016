use Rattle.std.proofs.Common.{◌+◌, ◌*◌, ◌-◌}
use Rattle.hx_turn.proofs.TurnedSets.{has-turned}
use Rattle.hx_turn.proofs.turns.turned_set.Goals as goal

pub returns : goal.returns
returns c =
    has-turned c.args.size c.all.ensures.valid c.args.cells c.reversed.result (11 * (c.rows.result - 1) + (c.cols.result - 1))
    (cc (c.rows.ensures.value, c.cols.ensures.value))
    (λ n less. rw (← c.bits.ensures) (c.reversed.ensures n less))
    c.of.result c.all.result c.meet.result c.of.ensures c.all.ensures.cells c.meet.ensures.members
