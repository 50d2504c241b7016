use Rattle.hx_linkset.proofs.BlockLaws.{ReadBut}
use Rattle.hx_linkset.proofs.blocks.half_links.Given as goal

abbrev pub invariant-loop-left : goal.invariant-loop-left
invariant-loop-left l = ReadBut l.rows l.first l.cells l.left l.links

abbrev pub decreases-loop-left : goal.decreases-loop-left
decreases-loop-left l = l.left
