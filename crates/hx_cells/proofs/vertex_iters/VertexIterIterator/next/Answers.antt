use Rattle.hx_board.proofs.SetLaws.{remove-lt}
use Rattle.hx_board.proofs.Lowest.{some_member}
use Rattle.hx_cells.proofs.vertex_iters.VertexIterIterator.next.Goals as goal

pub without_lowest-self-inside-requires : goal.without_lowest-self-inside-requires
without_lowest-self-inside-requires c = some_member _ _ c.in_ok-vertex.ensures.first

pub returns-clause-goes : goal.returns-clause-goes
returns-clause-goes c = record {
  on = λ finite. (
    tt,
    tt,
    rw (c.without_lowest-self-inside.ensures _ c.in_ok-vertex.ensures.first, ← c.self.view_is)
        (remove-lt _ _ c.in_ok-vertex.ensures.first.member),
  );
  keeps = tt;
  rests = λ finite. tt;
}
