use Rattle.std.proofs.Common.{◌∙◌}
use Rattle.hx_parse.proofs.reader.TreeReader.step_on.Goals as goal

pub returns-clause-again : goal.returns-clause-again
returns-clause-again c = λ fault failed. c.take_line-told.ensures.again fault (failed.0, c.replace-place.ensures.value ∙ failed.1)
