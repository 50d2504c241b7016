use Rattle.hx_text.proofs.Spelled.{stone_spelled, cell_spelled}
use Rattle.hx_text.proofs.spelling.put_step.Goals as goal

pub returns-in-AndStone : goal.returns-in-AndStone
returns-in-AndStone c = rw (c.put_and.ensures, c.in-AndStone.is, stone_spelled)

pub returns-in-AndCell : goal.returns-in-AndCell
returns-in-AndCell c = rw (c.put_and-in-AndCell.ensures, c.in-AndCell.is, cell_spelled)
