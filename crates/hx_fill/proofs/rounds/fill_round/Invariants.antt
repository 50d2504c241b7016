use Rattle.hx_fill.specs.Rounds.{AreAllEmpties, HasNoStoneLess, IsRound}
use Rattle.hx_fill.proofs.rounds.fill_round.Given as goal

abbrev pub invariant-loop-cell : goal.invariant-loop-cell
invariant-loop-cell l = record {
  grown : HasNoStoneLess l.view.board l.filled.position;
  empties : AreAllEmpties l.filled.position l.empties;
  round : IsRound l.colour l.cell-iterator.cells l.view.board l.fn.filled.steps.items l.filled.position l.filled.steps.items;
}
