use Rattle.hx_text.proofs.WholeTrees.{written_is_text, read_back}
use Rattle.hx_text.proofs.laws.written_is_text.Goals as goal

pub returns-clause-text : goal.returns-clause-text
returns-clause-text c = written_is_text

pub returns-clause-read_back : goal.returns-clause-read_back
returns-clause-read_back c = read_back
