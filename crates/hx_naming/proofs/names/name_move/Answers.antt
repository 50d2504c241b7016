use Rattle.hx_naming.proofs.MoreLaws.{heading-stays}
use Rattle.hx_naming.proofs.names.name_move.Goals as goal

pub returns-in-None-clause-same_heading : goal.returns-in-None-clause-same_heading
returns-in-None-clause-same_heading c = heading-stays _ _ c.args.root c.named.ensures.grown.after c.requires.inside
