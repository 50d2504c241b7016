use Rattle.hx_text.proofs.WholePositions.{text_tells_position}
use Rattle.hx_text.proofs.laws.text_tells_position.Goals as goal

pub returns : goal.returns
returns c = text_tells_position
