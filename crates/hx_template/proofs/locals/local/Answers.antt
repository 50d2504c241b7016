use Rattle.std.proofs.Common.{sym}
use Rattle.hx_template.proofs.Numbers.{number-empty}
use Rattle.hx_template.proofs.locals.local.Goals as goal

pub secures-requires-clause-number : goal.secures-requires-clause-number
secures-requires-clause-number c =
    rw (c.new-game.ensures.player, c.new-game.ensures.carrier)
    (sym (number-empty 121 c.args.colour c.args.carrier c.args.position.now c.requires.empty))
