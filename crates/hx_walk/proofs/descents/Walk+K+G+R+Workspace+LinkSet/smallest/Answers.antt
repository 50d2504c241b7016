use Rattle.hx_walk.proofs.WalkLaws.{keeps-itself, keeps-on, kept-may-hold}
use Rattle.hx_walk.proofs.descents.Walk+K+G+R+Workspace+LinkSet.smallest.Goals as goal

pub loop-cell-init : goal.loop-cell-init
loop-cell-init g c = keeps-itself _ c.args.self.now

pub size_after-here-requires : goal.size_after-here-requires
size_after-here-requires g c = kept-may-hold _ _ _ _ c.loop-cell.invariant c.requires

pub loop-cell-preserved-then-here-least : goal.loop-cell-preserved-then-here-least
loop-cell-preserved-then-here-least g c = keeps-on _ _ _ _ c.loop-cell.invariant c.size_after-here.ensures.keeps

pub loop-cell-preserved : goal.loop-cell-preserved
loop-cell-preserved g c = keeps-on _ _ _ _ c.loop-cell.invariant c.size_after-here.ensures.keeps
