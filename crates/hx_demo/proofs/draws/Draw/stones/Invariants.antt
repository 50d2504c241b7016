use Rattle.hx_demo.proofs.DrawnStones.{AreDrawn}
use Rattle.hx_demo.proofs.draws.Draw.stones.Given as goal

abbrev pub invariant-loop-stone : goal.invariant-loop-stone
invariant-loop-stone l = AreDrawn l.initial.left.items l.initial.self l._stone l.cells l.left.items l.self
