use Rattle.std.proofs.Common.{◌-◌, ◌^◌}
use Rattle.hx_board.proofs.FloodLaws.{IsFlood}
use Rattle.hx_board.proofs.floods.flood.Given as goal

abbrev pub invariant-loop-own : goal.invariant-loop-own
invariant-loop-own l = IsFlood l.graph.board l.graph.player l.fn.start l.group

abbrev pub decreases-loop-own : goal.decreases-loop-own
decreases-loop-own l = 2 ^ 128 - l.group
