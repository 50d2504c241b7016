use Rattle.hx_board.specs.declared.vertices.Vertex.TheVariants.{Last}
use Rattle.hx_board.proofs.groups.chain.Goals as goal

pub returns : goal.returns
returns c = rw (c.has.ensures) (rw c.of-graph.ensures at (c.flood-joined.ensures.members Last tt))
