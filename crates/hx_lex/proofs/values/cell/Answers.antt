use Rattle.std.proofs.Common.{rules}
use Rattle.hx_lex.proofs.CellWords.{cell_reads}
use Rattle.hx_lex.proofs.values.cell.Goals as goal

pub returns : goal.returns
returns c = cell_reads _ _ _ _ _ _ c.rows-rows.ensures.valid.1 (search rules) c.in_ok-row.ensures c.cell_at.ensures
