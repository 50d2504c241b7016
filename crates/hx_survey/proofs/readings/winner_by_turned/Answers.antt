use Rattle.hx_survey.proofs.ReadWinners.{none-unlisted}
use Rattle.hx_survey.proofs.readings.winner_by_turned.Goals as goal

pub returns-in-None : goal.returns-in-None
returns-in-None c =
    none-unlisted c.args.book.now.nodes c.args.position.now c.turned-other.result c.turned-other.ensures.turned c.requires c.in-None.ensures
