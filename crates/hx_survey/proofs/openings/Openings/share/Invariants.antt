-- Of the cells that are not left the set has those of the share.
use Rattle.hx_survey.proofs.PartShares.{IsShareBut}
use Rattle.hx_survey.proofs.openings.Openings.share.Given as goal

abbrev pub invariant-loop-cell : goal.invariant-loop-cell
invariant-loop-cell l = IsShareBut l.self.size l.self.workers l.worker l.cell-iterator.cells l.share
