use Rattle.std.proofs.Common.{sym, ◌∙◌}
use Rattle.std.proofs.lemmas.Bool.{false≢true}
use Rattle.hx_board.proofs.SetLaws.{has-empty}
use Rattle.hx_board.proofs.StoneLaws.{empty-put}
use Rattle.hx_board.proofs.CellLaws.{on_board-small}
use Rattle.hx_fill.proofs.OpenAfter.{open-others_after}
use Rattle.hx_fill.proofs.dominations.BothGroups.is_dead_after.Goals as goal

pub makers_of-makers-requires-clause-empty : goal.makers_of-makers-requires-clause-empty
makers_of-makers-requires-clause-empty c =
    rw c.after-others.ensures
    ((empty-put c.args.self.now.position c.args.self.now.mover c.args.better c.args.worse).1
    (c.requires.worse, λ e. c.requires.differ (sym e)))

pub makers_of-makers-requires-clause-around : goal.makers_of-makers-requires-clause-around
makers_of-makers-requires-clause-around c =
    let open_ones = rw c.other-other.ensures at c.open_around-open.ensures in
    rw (c.after-others.ensures, c.other-other.ensures, c.without-around.ensures.set)
    (open-others_after c.args.self.now.position c.args.self.now.mover c.args.better
    (on_board-small _ _ c.size-size.ensures.valid.0 c.requires.better.on_board)
    c.args.worse c.open_around-open.result open_ones)

pub makers_of-makers-requires-clause-among : goal.makers_of-makers-requires-clause-among
makers_of-makers-requires-clause-among c = λ n h. absurd (false≢true (sym (has-empty n) ∙ (rw c.empty.ensures at h)))
