use Rattle.hx_cmd_htp.proofs.LimitLaws.{too_long_above}
use Rattle.hx_cmd_htp.proofs.laws.only_lines_above_a_limit_are_too_long.Goals as goal

pub returns : goal.returns
returns c = too_long_above
