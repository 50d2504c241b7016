use Rattle.hx_linkset.proofs.BlockLaws.{KeptBelow}
use Rattle.hx_linkset.proofs.blocks.Block.cut.Given as goal

abbrev pub invariant-loop-place : goal.invariant-loop-place
invariant-loop-place l = KeptBelow l.fn.self.rows l.self.rows l.number
