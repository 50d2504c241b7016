use Rattle.std.proofs.Common.{◌≡◌, ℕ, ◌+◌, ◌-◌, subst, arith}
use Rattle.hx_play.specs.Kept.{ArePartedFrom}
use Rattle.hx_play.proofs.PartingLaws.{parted-unmarked, parted-start}
use Rattle.hx_play.proofs.kept.take_all_apart.Goals as goal

pub loop-place-init : goal.loop-place-init
loop-place-init c = λ stone board kept. parted-start c.args.position.now c.args.player c.args.steps.now c.args.links.now c.args.marks.now
    stone board kept

pub loop-place-preserved-then-marks-place : goal.loop-place-preserved-then-marks-place
loop-place-preserved-then-marks-place c = λ stone board kept.
    let same : c.loop-place.place ≡ c.loop-place.place - 1 + 1 = omega arith in
    let P : ℕ → Type 0 = λ n. ArePartedFrom c.args.position.now c.args.player c.args.steps.now c.args.links.now c.loop-place.marks stone
    board n in
    c.take_apart.ensures stone board (subst P same (c.loop-place.invariant stone board kept))

pub loop-place-preserved : goal.loop-place-preserved
loop-place-preserved c = λ stone board kept.
    let same : c.loop-place.place ≡ c.loop-place.place - 1 + 1 = omega arith in
    let P : ℕ → Type 0 = λ n. ArePartedFrom c.args.position.now c.args.player c.args.steps.now c.args.links.now c.loop-place.marks stone
    board n in
    parted-unmarked c.args.position.now c.args.player c.args.steps.now c.args.links.now c.loop-place.marks
    (c.loop-place.place - 1) c.requires.right stone board c.if-marks-place.false
    (subst P same (c.loop-place.invariant stone board kept))

pub returns : goal.returns
returns c = λ stone board kept.
    let same : c.loop-place.place ≡ 0 = omega arith in
    let P : ℕ → Type 0 = λ n. ArePartedFrom c.args.position.now c.args.player c.args.steps.now c.args.links.now c.loop-place.marks stone
    board n in
    subst P same (c.loop-place.invariant stone board kept)
