use Rattle.hx_board.proofs.SetLaws.{remove-lt}
use Rattle.hx_cells.proofs.cell_iters.CellIterIterator.next.Goals as goal

pub returns-clause-goes : goal.returns-clause-goes
returns-clause-goes c = record {
  on = λ finite. (
    tt,
    tt,
    rw (c.without-self-inside.ensures.set, ← c.self.view_is)
        (remove-lt c.self.inside.left c.in_ok-cell.cell c.in_ok-cell.ensures.member),
  );
  keeps = tt;
  rests = λ finite. tt;
}
