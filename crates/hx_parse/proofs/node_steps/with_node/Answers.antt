use Rattle.std.proofs.Common.{arith}
use Rattle.hx_parse.proofs.Steps.{stands_more}
use Rattle.hx_parse.proofs.node_steps.with_node.Goals as goal

pub returns : goal.returns
returns c = λ nodes lines stands under fits.
    ((λ e. cc), stands_more c.args.so_far c.args.node _ nodes lines stands under (omega (arith, c.saturating_add.ensures)) fits)
