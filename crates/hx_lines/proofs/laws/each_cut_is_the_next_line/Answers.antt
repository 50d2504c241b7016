use Rattle.hx_lines.proofs.LineLaws.{cut_tells_lines}
use Rattle.hx_lines.proofs.laws.each_cut_is_the_next_line.Goals as goal

pub returns : goal.returns
returns c = cut_tells_lines
