use Rattle.hx_cmd_htp.proofs.LimitLaws.{done_within}
use Rattle.hx_cmd_htp.proofs.laws.only_lines_within_the_limits_are_done.Goals as goal

pub returns : goal.returns
returns c = done_within
