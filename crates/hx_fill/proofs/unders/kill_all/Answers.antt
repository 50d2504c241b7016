use Rattle.std.proofs.Common.{◌≡◌, ℕ, true, sym, ◌∙◌, subst}
use Rattle.std.proofs.lemmas.Bool.{false≢true}
use Rattle.hx_board.specs.Sets.{has}
use Rattle.hx_cells.proofs.StillLeft.{cells-left}
use Rattle.hx_fill.proofs.ComingLaws.{killed_none, killed_all}
use Rattle.hx_fill.proofs.unders.kill_all.Goals as goal

pub loop-worse-init : goal.loop-worse-init
loop-worse-init c = rw (c.empty-killed.ensures, c.into_iter-worse-iterator.ensures.into_iter_gives, c.each_cell-worse-items.ensures.left)
    (killed_none c.args.both.now.position c.args.both.now.mover c.args.better c.args.cells c.args.choices.now)

pub kill_one-killed-requires : goal.kill_one-killed-requires
kill_one-killed-requires c =
    let left = cells-left c.args.size c.args.cells c.loop-worse.yielded
    (c.into_iter-worse-iterator.ensures.into_iter_gives ∙ c.each_cell-worse-items.ensures.left) c.loop-worse.yielded_by in
    let in_cells = left.inside c.in-Some.worse c.in-Some.ensures.steps.least.member in
    record {
      better = c.requires.better;
      worse = c.requires.cells c.in-Some.worse in_cells;
      differ = λ same. false≢true
          (sym c.requires.differ ∙ (let P : ℕ → Type 0 = λ x. has c.args.cells x ≡ true in subst P (sym same) in_cells));
    }

pub loop-worse-preserved : goal.loop-worse-preserved
loop-worse-preserved c =
    let left = cells-left c.args.size c.args.cells c.loop-worse.yielded
    (c.into_iter-worse-iterator.ensures.into_iter_gives ∙ c.each_cell-worse-items.ensures.left) c.loop-worse.yielded_by in
    rw c.in-Some.ensures.steps.cells
    (c.kill_one-killed.ensures c.args.cells c.loop-worse.worse-iterator.cells c.args.choices.now
    (left.inside c.in-Some.worse c.in-Some.ensures.steps.least.member) c.loop-worse.invariant)

pub returns : goal.returns
returns c =
    let left = cells-left c.args.size c.args.cells c.loop-worse.yielded
    (c.into_iter-worse-iterator.ensures.into_iter_gives ∙ c.each_cell-worse-items.ensures.left) c.loop-worse.yielded_by in
    let none = rw (left.size, ← c.requires.size) at c.in-None.ensures.steps.none in
    killed_all c.args.both.now.position c.args.both.now.mover c.args.better c.args.cells c.loop-worse.worse-iterator.cells _ _ _
    (λ n h. none n (c.requires.cells n h).on_board) c.loop-worse.invariant
