use Rattle.std.proofs.Common.{rules}
use Rattle.hx_turn.specs.Turned.{IsTurned}
use Rattle.hx_turn.proofs.TurnedBoards.{turned-back, turned-one}
use Rattle.hx_turn.proofs.turns.turned.Goals as goal

pub returns-clause-back : goal.returns-clause-back
returns-clause-back c twice turn =
    let once : IsTurned c.args.position.now c.in-Some.result = search rules in
    turned-one c.in-Some.result twice c.args.position.now turn
    (turned-back c.args.position.now c.in-Some.result c.size-size.ensures.valid once)
