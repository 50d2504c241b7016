use Rattle.hx_walk.specs.Walks.{Keeps}
use Rattle.hx_walk.proofs.threats.Walk+K+G+R+Workspace+LinkSet.add_threats.Given as goal

abbrev pub invariant-loop : goal.invariant-loop
invariant-loop g l = Keeps g.K.Knows.view l.fn.self l.self
