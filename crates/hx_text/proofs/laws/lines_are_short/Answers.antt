use Rattle.hx_text.proofs.ShortLines.{lines_are_short}
use Rattle.hx_text.proofs.laws.lines_are_short.Goals as goal

pub returns : goal.returns
returns c = lines_are_short
