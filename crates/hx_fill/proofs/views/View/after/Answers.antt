use Rattle.hx_fill.proofs.ViewLaws.{tells-after}
use Rattle.hx_fill.proofs.views.View.after.Goals as goal

pub invariant_of-result : goal.invariant_of-result
invariant_of-result c =
    let joint = rw c.requires.groups at c.joined_with-joint.ensures in
    rw (c.requires.groups, c.with.ensures)
    (tells-after c.args.position.now c.args.colour c.args.who c.args.cell c.requires.empty.on_board c.joined_with-joint.result joint
    c.own_stone.result c.own_stone.ensures.own c.own_stone.ensures.others)
