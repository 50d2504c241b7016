use Rattle.hx_linkset.proofs.BlockLaws.{kept-next}
use Rattle.hx_linkset.proofs.blocks.Block.cut.Goals as goal

pub loop-place-preserved : goal.loop-place-preserved
loop-place-preserved c = kept-next _ _ _ c.loop-place.place c.requires c.loop-place-test.true c.loop-place.invariant
