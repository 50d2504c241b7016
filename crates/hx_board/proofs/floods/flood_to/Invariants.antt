use Rattle.std.proofs.Common.{◌-◌, ◌^◌}
use Rattle.hx_board.proofs.FloodLaws.{IsFlood}
use Rattle.hx_board.proofs.floods.flood_to.Given as goal

abbrev pub invariant-loop-wanted : goal.invariant-loop-wanted
invariant-loop-wanted l = IsFlood l.graph.board l.graph.player l.fn.start l.group

abbrev pub decreases-loop-wanted : goal.decreases-loop-wanted
decreases-loop-wanted l = 2 ^ 128 - l.group
