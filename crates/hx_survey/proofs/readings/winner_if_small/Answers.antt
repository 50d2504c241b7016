use Rattle.std.proofs.Common.{sym, ◌∙◌}
use Rattle.std.proofs.lemmas.Bool.{false≢true}
use Rattle.hx_survey.proofs.readings.winner_if_small.Goals as goal

pub returns : goal.returns
returns c = λ small. false≢true (sym c.if-is_small.false ∙ c.is_small.ensures.1 small)
