use Rattle.std.proofs.Common.{take}
use Rattle.hx_linkset.specs.Marks.{MarksMore}
use Rattle.hx_board.specs.Lists.{StandsIn}
use Rattle.hx_linkset.proofs.marks.mark_all.Given as goal

abbrev pub invariant-loop-place : goal.invariant-loop-place
invariant-loop-place l = MarksMore (StandsIn (take l.place-index l.places)) l.initial.marks.items l.marks.items
