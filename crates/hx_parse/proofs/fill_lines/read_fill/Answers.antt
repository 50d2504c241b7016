use Rattle.hx_parse.proofs.FillReads.{fill_reads}
use Rattle.hx_parse.proofs.fill_lines.read_fill.Goals as goal

pub returns : goal.returns
returns c = fill_reads c.args.size _ _ _ c.rows-rows.ensures.valid c.of-words.ensures c.read_words.ensures
