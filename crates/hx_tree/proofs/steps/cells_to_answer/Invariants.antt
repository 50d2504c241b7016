-- The threats before the place are threats, and the cells that they share are kept.
use Rattle.hx_tree.proofs.ThreatLaws.{AreShared}
use Rattle.hx_tree.proofs.steps.cells_to_answer.Given as goal

abbrev pub invariant-loop-place : goal.invariant-loop-place
invariant-loop-place l = AreShared l.position l.links l.threats l.place-index l.shared
