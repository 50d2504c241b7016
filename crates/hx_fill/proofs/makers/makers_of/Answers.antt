use Rattle.std.proofs.Common.{true, refl}
use Rattle.hx_fill.proofs.MakerLaws.{others_are, makers-are}
use Rattle.hx_fill.proofs.makers.makers_of.Goals as goal

pub returns : goal.returns
returns c =
    makers-are c.args.view.now.board c.args.view.now.player c.args.cell c.args.around c.requires.around c.requires.empty c.args.among
    (record { is_dead = true; cells = c.without.result }) c.narrow_by.new.makers refl
    (others_are c.args.view.now.board c.args.among c.args.cell c.without.result c.without.ensures.set c.requires.among)
    c.narrow_by.ensures
