use Rattle.hx_text.proofs.WholeTrees.{text_tells_nodes}
use Rattle.hx_text.proofs.laws.text_tells_nodes.Goals as goal

pub returns : goal.returns
returns c = text_tells_nodes
