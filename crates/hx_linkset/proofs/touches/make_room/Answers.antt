use Rattle.std.proofs.Common.{◌≡◌, ◌/◌, length, arith}
use Rattle.hx_linkset.proofs.TouchLaws.{blocks-room}
use Rattle.hx_linkset.proofs.touches.make_room.Goals as goal

pub returns-in-Ok-clause-same : goal.returns-in-Ok-clause-same
returns-in-Ok-clause-same c = λ links full are.
    let at_end : length links / 64 ≡ length c.args.blocks.now.items = omega arith in
    rw c.in-Ok.ensures.items (blocks-room links c.args.blocks.now.items c.new.result at_end are)
