use Rattle.hx_linkset.proofs.MarkLaws.{mark-both}
use Rattle.hx_linkset.proofs.marks.mark_both.Goals as goal

pub returns : goal.returns
returns c = mark-both c.args.marks.now.items c.args.left c.args.right c.requires.left c.requires.right
