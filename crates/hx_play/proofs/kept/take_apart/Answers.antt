use Rattle.std.proofs.Common.{◌≡◌, true, false, length, set, length-set, refl, ap, ◌∙◌, Some, arith}
use Rattle.std.specs.Prelude.{slice_get}
use Rattle.std.proofs.lemmas.Option.{slice_get_read}
use Rattle.hx_link.specs.declared.steps.Step.{Step}
use Rattle.hx_play.proofs.PartingLaws.{left-inside, right-inside, parted-base, parted-stone, parted-cell, parted-or}
use Rattle.hx_play.proofs.kept.take_apart.Goals.{After-index-steps-place}
use Rattle.hx_play.proofs.kept.take_apart.Goals as goal

-- the step at the place
step_at : (c : After-index-steps-place) {step : Step} → c.index-steps-place.result ≡ step
    → slice_get c.args.steps.now c.args.place ≡ Some step
step_at c is =
    slice_get_read c.args.steps.now (length c.args.steps.now) c.args.place _ refl c.requires.within c.index-steps-place.is ∙ ap Some is

pub bounds-marks-left : goal.bounds-marks-left
bounds-marks-left c =
    let at = step_at (goal.at.bounds-marks-left c).After-index-steps-place c.in-AndStone.is in
    omega (
      arith,
      left-inside c.args.position.now c.args.player c.args.steps.now c.args.links.now c.args.marks.now c.args.place
          c.requires.right c.in-AndStone.left c.in-AndStone.right at c.requires.room,
      length-set c.args.marks.now c.args.place false,
    )

pub bounds-marks-right : goal.bounds-marks-right
bounds-marks-right c =
    let at = step_at (goal.at.bounds-marks-right c).After-index-steps-place c.in-AndStone.is in
    omega (
      arith,
      right-inside c.args.position.now c.args.player c.args.steps.now c.args.links.now c.args.marks.now c.args.place
          c.requires.right c.in-AndStone.left c.in-AndStone.right at c.requires.room,
      length-set c.args.marks.now c.args.place false,
      length-set (set c.args.marks.now c.args.place false) c.in-AndStone.left true,
    )

pub returns-in-Base : goal.returns-in-Base
returns-in-Base c = λ stone board.
    let at = step_at (goal.at.returns-in-Base c).After-index-steps-place c.in-Base.is in
    parted-base c.args.position.now c.args.player c.args.steps.now c.args.links.now c.args.marks.now c.args.place c.requires.right stone
    board (omega arith) c.requires.marked
    c.in-Base.a c.in-Base.b at

pub returns-in-AndStone : goal.returns-in-AndStone
returns-in-AndStone c = λ stone board.
    let at = step_at (goal.at.returns-in-AndStone c).After-index-steps-place c.in-AndStone.is in
    parted-stone c.args.position.now c.args.player c.args.steps.now c.args.links.now c.args.marks.now c.args.place c.requires.right stone
    board (omega arith) c.requires.marked
    c.in-AndStone.left c.in-AndStone.right at c.requires.room

pub returns-in-AndCell : goal.returns-in-AndCell
returns-in-AndCell c = λ stone board.
    let at = step_at (goal.at.returns-in-AndCell c).After-index-steps-place c.in-AndCell.is in
    parted-cell c.args.position.now c.args.player c.args.steps.now c.args.links.now c.args.marks.now c.args.place c.requires.right stone
    board c.in-AndCell.left c.in-AndCell.right at c.requires.marked

pub returns-in-Or : goal.returns-in-Or
returns-in-Or c = λ stone board.
    let at = step_at (goal.at.returns-in-Or c).After-index-steps-place c.in-Or.is in
    parted-or c.args.position.now c.args.player c.args.steps.now c.args.links.now c.args.marks.now c.args.place c.requires.right stone board
    c.in-Or.parts at
