use Rattle.hx_template_text.proofs.WholeReads.{spelled_is_read}
use Rattle.hx_template_text.proofs.reading.read_template.Goals as goal

pub returns-clause-all : goal.returns-clause-all
returns-clause-all c = spelled_is_read _ _ c.read_lines.ensures.read c.read_lines.ensures.fault
