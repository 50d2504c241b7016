use Rattle.hx_board.proofs.VertexSetLaws.{cells-small}
use Rattle.hx_board.proofs.graphs.Graph.around.Goals as goal

pub returns-clause-codes : goal.returns-clause-codes
returns-clause-codes c = cells-small _ _ (rw c.size.ensures.value c.size.ensures.valid.0) (λ n h. ((c.around.ensures n).0 h).on_board)
