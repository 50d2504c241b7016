use Rattle.hx_lines.proofs.LineLaws.{lines_of-ended_lines}
use Rattle.hx_lines.proofs.laws.cut_lines_come_first.Goals as goal

pub returns : goal.returns
returns c = lines_of-ended_lines
