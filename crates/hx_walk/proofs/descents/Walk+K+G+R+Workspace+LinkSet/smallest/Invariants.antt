use Rattle.hx_walk.specs.Walks.{Keeps}
use Rattle.hx_walk.proofs.descents.Walk+K+G+R+Workspace+LinkSet.smallest.Given as goal

abbrev pub invariant-loop-cell : goal.invariant-loop-cell
invariant-loop-cell g l = Keeps g.K.Knows.view l.fn.self l.self
