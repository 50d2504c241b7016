use Rattle.hx_parse.proofs.WholeReads.{spelled_is_read}
use Rattle.hx_parse.proofs.positions.read_position.Goals as goal

pub returns-clause-all : goal.returns-clause-all
returns-clause-all c = spelled_is_read _ _ c.read_lines.ensures.read c.read_lines.ensures.fault
