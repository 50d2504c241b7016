use Rattle.hx_fill.proofs.ComingLaws.{with_killer-none, with_killer-some}
use Rattle.hx_fill.proofs.unders.with_killer.Goals as goal

pub returns-then-is_empty : goal.returns-then-is_empty
returns-then-is_empty c = with_killer-none c.args.betters c.args.better c.args.killed (c.is_empty.ensures.empty.0 c.if-is_empty.true)

pub returns-else-is_empty : goal.returns-else-is_empty
returns-else-is_empty c =
    rw c.with.ensures.set (with_killer-some c.args.betters c.args.better c.args.killed (c.is_empty.ensures.some c.if-is_empty.false))
