use Rattle.hx_text.proofs.OneFault.{one_tree_fault, one_position_fault}
use Rattle.hx_text.proofs.laws.one_faulty_line.Goals as goal

pub returns-clause-trees : goal.returns-clause-trees
returns-clause-trees c = one_tree_fault

pub returns-clause-positions : goal.returns-clause-positions
returns-clause-positions c = one_position_fault
