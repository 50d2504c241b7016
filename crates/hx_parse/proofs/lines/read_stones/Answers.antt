use Rattle.hx_parse.proofs.lines.read_stones.Goals as goal

pub returns : goal.returns
returns c = rw c.colour_word.ensures at c.keyed_mask.ensures
