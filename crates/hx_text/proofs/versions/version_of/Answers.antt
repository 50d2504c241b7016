-- A turned node would stand at a place before the end.
use Rattle.std.proofs.Common.{arith}
use Rattle.hx_text.proofs.versions.version_of.Goals as goal
use Rattle.hx_board.proofs.ListLaws.{holds-inside}

pub returns : goal.returns
returns c = (
  (λ e. cc),
  (λ turned. absurd (c.loop-node.invariant turned.0 (omega (arith, holds-inside _ c.args.nodes.now turned.0 turned.1)) turned.1)),
)
