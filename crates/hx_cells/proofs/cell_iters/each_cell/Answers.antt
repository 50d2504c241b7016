use Rattle.hx_cells.proofs.EachCell.{comes-once}
use Rattle.hx_cells.proofs.cell_iters.each_cell.Goals as goal

pub returns-clause-each : goal.returns-clause-each
returns-clause-each c = comes-once (record { size = c.args.size; cells = c.args.set })
