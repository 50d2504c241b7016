use Rattle.hx_fill.proofs.ReachLaws.{HoldsAllBut}
use Rattle.hx_fill.proofs.reaches.reached_around.Given as goal

abbrev pub invariant-loop-next : goal.invariant-loop-next
invariant-loop-next l = HoldsAllBut l.view.board l.view.player l.fn.around l.next-iterator l.found
