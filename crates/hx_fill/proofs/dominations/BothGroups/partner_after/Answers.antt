use Rattle.std.proofs.Common.{sym}
use Rattle.hx_board.proofs.SetLaws.{has-remove_before, has-remove_other}
use Rattle.hx_board.proofs.StoneLaws.{empty-put}
use Rattle.hx_fill.proofs.OpenAfter.{open-own_after}
use Rattle.hx_fill.proofs.MakerLaws.{differs-removed}
use Rattle.hx_fill.proofs.KillerLaws.{no_pair-by_makers, partner-dominates}
use Rattle.hx_fill.proofs.dominations.BothGroups.partner_after.Goals as goal

pub makers_of-makers-requires-clause-around : goal.makers_of-makers-requires-clause-around
makers_of-makers-requires-clause-around c =
    rw c.after-own.ensures (open-own_after c.args.self.now.position c.args.self.now.mover c.args.better c.args.worse
    c.open_around-around.result c.open_around-around.ensures)

pub makers_of-makers-requires-clause-empty : goal.makers_of-makers-requires-clause-empty
makers_of-makers-requires-clause-empty c =
    rw c.after-own.ensures ((empty-put c.args.self.now.position c.args.self.now.mover c.args.better c.args.worse).1
    (c.requires.worse, λ e. c.requires.differ (sym e)))

pub makers_of-makers-requires-clause-among : goal.makers_of-makers-requires-clause-among
makers_of-makers-requires-clause-among c = λ n h.
    let left = rw c.without-among.ensures.set at h in
    rw c.after-own.ensures ((empty-put c.args.self.now.position c.args.self.now.mover c.args.better n).1 (
      (c.empties.ensures n).0
          (has-remove_before c.empties.result c.args.better n left),
      differs-removed c.empties.result c.args.better n left,
    ))

pub partner_of-requires-clause-empty : goal.partner_of-requires-clause-empty
partner_of-requires-clause-empty c =
    rw c.after-own.ensures ((empty-put c.args.self.now.position c.args.self.now.mover c.args.better c.args.worse).1
    (c.requires.worse, λ e. c.requires.differ (sym e)))

pub returns : goal.returns
returns c =
    let makers = rw c.after-own.ensures at c.makers_of-makers.ensures in
    let partner = rw c.after-own.ensures at c.partner_of.ensures in
    partner-dominates c.args.self.now.position c.args.self.now.mover c.args.better c.args.worse c.makers_of-makers.result.cells
    c.partner_of.result c.requires.better
    (no_pair-by_makers _ _ c.args.worse c.without-among.result c.makers_of-makers.result makers
    (λ n empty. let before = (empty-put c.args.self.now.position c.args.self.now.mover c.args.better n).0 empty in
    rw c.without-among.ensures.set (has-remove_other c.empties.result c.args.better n before.1 ((c.empties.ensures n).1 before.0)))) partner
