use Rattle.hx_survey.proofs.ReadWinners.{open-or-won}
use Rattle.hx_survey.proofs.readings.winner_after.Goals as goal

pub returns-in-None : goal.returns-in-None
returns-in-None c =
    open-or-won c.args.book.now.nodes c.args.size c.args.budget c.args.cell c.winner_if_small.result
    (rw c.opening-position.ensures at c.in-None.ensures) (rw c.opening-position.ensures at c.winner_if_small.ensures)
