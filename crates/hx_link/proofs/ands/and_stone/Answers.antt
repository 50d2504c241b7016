use Rattle.hx_link.proofs.MeetingLaws.{no_stone, stone-made}
use Rattle.hx_link.proofs.ands.and_stone.Goals as goal

pub returns-in_default : goal.returns-in_default
returns-in_default c = λ link g. no_stone _ _ _ _ _ link c.in_default.ensures g.rule g.link_ok

pub returns : goal.returns
returns c = stone-made _ _ _ _ _ c.in-Some.met _ _ c.union-carrier.ensures.set c.in-Some.ensures
    (c.owns-own.ensures.0 c.if-not-own.false) (c.made.ensures c.args.position.now c.args.colour c.requires)
