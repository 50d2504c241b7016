use Rattle.hx_play.proofs.BetweenLaws.{between-none, between-is}
use Rattle.hx_play.proofs.kept.cell_between.Goals as goal

pub unreachable-requires : goal.unreachable-requires
unreachable-requires c = between-none c.args.size c.args.whole c.args.first c.args.second c.requires.0 c.requires.1 _ _ c.union.ensures.set
    c.minus.ensures.set c.in-None.ensures

pub returns : goal.returns
returns c = between-is c.args.size c.args.whole c.args.first c.args.second c.requires.0 c.requires.1 _ _ c.union.ensures.set
    c.minus.ensures.set _ c.in-Some.ensures
