use Rattle.hx_board.proofs.SetLaws.{has-earlier}
use Rattle.hx_linkset.proofs.BlockLaws.{low-half}
use Rattle.hx_linkset.proofs.blocks.halves.Goals as goal

pub returns-clause-low : goal.returns-clause-low
returns-clause-low c = λ n h. rw c.bits-bits.ensures (low-half c.args.cells n h)

pub returns-clause-high : goal.returns-clause-high
returns-clause-high c = λ n. rw c.bits-bits.ensures (has-earlier c.args.cells 64 n)
