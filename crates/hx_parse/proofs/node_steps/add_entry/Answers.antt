use Rattle.std.proofs.Common.{refl}
use Rattle.hx_parse.proofs.BegunSteps.{stands_with_entry, room_for_due}
use Rattle.hx_parse.proofs.node_steps.add_entry.Goals as goal

pub returns-then-takes : goal.returns-then-takes
returns-then-takes c = λ nodes lines stands fits.
    c.settled.ensures nodes _ (stands_with_entry c.args.begun _ c.args.entry nodes lines (c.if-takes.ensures.yes refl) stands fits)

pub returns-else-takes : goal.returns-else-takes
returns-else-takes c = λ nodes lines stands fits.
    absurd (room_for_due c.args.begun stands.begun_so.in_order stands.begun_so.lists stands.lacks c.args.entry fits.1
    (c.if-takes.ensures.full refl))
