use Rattle.std.proofs.Common.{refl}
use Rattle.hx_cmd_play.proofs.TreeLaws.{nothing_taken}
use Rattle.hx_cmd_play.proofs.trees.TreeSoFar.new.Goals as goal

pub returns-clause-nothing : goal.returns-clause-nothing
returns-clause-nothing c = λ before. nothing_taken before _ c.new.ensures.nothing c.new.ensures.unended c.new-2.ensures.items refl
