use Rattle.hx_survey.proofs.PartTables.{IsTableBut}
use Rattle.hx_survey.proofs.readings.table_of.Given as goal

abbrev pub invariant-loop-cell : goal.invariant-loop-cell
invariant-loop-cell l = IsTableBut l.size l.cell-iterator.cells l.black
