use Rattle.std.proofs.Common.{subst}
use Rattle.hx_board.specs.Finds.{Finds}
use Rattle.hx_board.specs.Graph.{Grouped}
use Rattle.hx_link.specs.Steps.{StepGives}
use Rattle.hx_link.proofs.results.result_among.Goals as goal

pub returns-in-Base : goal.returns-in-Base
returns-in-Base c =
    let P : Grouped → Type 0 = λ g. Finds c.base_link.result (StepGives g.board g.player c.args.before.now c.args.step.now) in
    subst P c.requires.groups (rw c.in-Base.is (c.base_link.ensures c.args.before.now))
