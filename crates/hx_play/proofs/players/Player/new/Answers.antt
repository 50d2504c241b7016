use Rattle.std.proofs.Common.{rules, refl}
use Rattle.hx_play.proofs.GameLaws.{new_stands}
use Rattle.hx_play.proofs.players.Player.new.Goals as goal

pub invariant_of-result : goal.invariant_of-result
invariant_of-result c = new_stands c.args.nodes.items c.in-Some.root.now _ c.requires.valid c.requires.plain
    (search rules) refl refl refl refl (search rules) (search rules)
