use Rattle.std.proofs.Common.{◌≡◌, true, length, length-set, refl, ap, ◌∙◌, Some, arith}
use Rattle.std.specs.Prelude.{slice_get}
use Rattle.std.proofs.lemmas.Option.{slice_get_read}
use Rattle.hx_link.specs.declared.steps.Step.TheVariants.{AndCell}
use Rattle.hx_play.proofs.MoveLaws.{semi_step}
use Rattle.hx_play.proofs.TakeLaws.{left-there, right-there, left-less, right-less, some-over, taken-empty, taken-moved}
use Rattle.hx_play.proofs.kept.take_cell.Goals as goal

pub unreachable-requires : goal.unreachable-requires
unreachable-requires c =
    let w = semi_step c.args.heading.now.position c.args.heading.now.winner c.args.links.now c.args.steps.now c.args.marks.now
    c.args.position.now c.args.place c.index-steps-place.result
    c.requires.right (slice_get_read c.args.steps.now
    (length c.args.steps.now) c.args.place _ refl c.requires.within c.index-steps-place.is) c.requires.due in
    c.in_default.not-AndCell w.0 w.1 w.2

pub carrier_at-whole-requires : goal.carrier_at-whole-requires
carrier_at-whole-requires c = (c.requires.due.link, c.requires.due.there)

pub carrier_at-first-requires : goal.carrier_at-first-requires
carrier_at-first-requires c =
    let at : slice_get c.args.steps.now c.args.place ≡ Some (AndCell c.in-AndCell.left c.in-AndCell.right) =
    slice_get_read c.args.steps.now (length c.args.steps.now) c.args.place _ refl c.requires.within c.index-steps-place.is
    ∙ ap Some c.in-AndCell.is in
    left-there c.args.heading.now.position c.args.heading.now.winner c.args.links.now c.args.steps.now c.args.marks.now c.args.position.now
    c.args.place _ _ c.requires.right at c.requires.due

pub carrier_at-second-requires : goal.carrier_at-second-requires
carrier_at-second-requires c =
    let at : slice_get c.args.steps.now c.args.place ≡ Some (AndCell c.in-AndCell.left c.in-AndCell.right) =
    slice_get_read c.args.steps.now (length c.args.steps.now) c.args.place _ refl c.requires.within c.index-steps-place.is
    ∙ ap Some c.in-AndCell.is in
    right-there c.args.heading.now.position c.args.heading.now.winner c.args.links.now c.args.steps.now c.args.marks.now c.args.position.now
    c.args.place _ _ c.requires.right at c.requires.due

pub cell_between-cell-requires : goal.cell_between-cell-requires
cell_between-cell-requires c =
    let at : slice_get c.args.steps.now c.args.place ≡ Some (AndCell c.in-AndCell.left c.in-AndCell.right) =
    slice_get_read c.args.steps.now (length c.args.steps.now) c.args.place _ refl c.requires.within c.index-steps-place.is
    ∙ ap Some c.in-AndCell.is in
    some-over c.args.heading.now.position c.args.heading.now.winner c.args.links.now c.args.steps.now c.args.marks.now c.args.position.now
    c.args.place _ _ c.requires.right at c.requires.due
    _ _ _ _ c.size.ensures.value c.carrier_at-whole.ensures c.carrier_at-first.ensures c.carrier_at-second.ensures

pub play-requires : goal.play-requires
play-requires c =
    let at : slice_get c.args.steps.now c.args.place ≡ Some (AndCell c.in-AndCell.left c.in-AndCell.right) =
    slice_get_read c.args.steps.now (length c.args.steps.now) c.args.place _ refl c.requires.within c.index-steps-place.is
    ∙ ap Some c.in-AndCell.is in
    taken-empty c.args.heading.now.position c.args.heading.now.winner c.args.links.now c.args.steps.now c.args.marks.now c.args.position.now
    c.args.place _ _ c.requires.right at c.requires.due
    _ _ _ _ c.size.ensures.value c.carrier_at-whole.ensures c.carrier_at-first.ensures c.carrier_at-second.ensures _
    c.cell_between-cell.ensures

pub bounds-marks-left : goal.bounds-marks-left
bounds-marks-left c =
    let at : slice_get c.args.steps.now c.args.place ≡ Some (AndCell c.in-AndCell.left c.in-AndCell.right) =
    slice_get_read c.args.steps.now (length c.args.steps.now) c.args.place _ refl c.requires.within c.index-steps-place.is
    ∙ ap Some c.in-AndCell.is in
    omega (
      arith,
      left-less c.args.heading.now.position c.args.heading.now.winner c.args.links.now c.args.steps.now c.args.marks.now
          c.args.position.now c.args.place _ _ c.requires.right at c.requires.due,
    )

pub bounds-marks-right : goal.bounds-marks-right
bounds-marks-right c =
    let at : slice_get c.args.steps.now c.args.place ≡ Some (AndCell c.in-AndCell.left c.in-AndCell.right) =
    slice_get_read c.args.steps.now (length c.args.steps.now) c.args.place _ refl c.requires.within c.index-steps-place.is
    ∙ ap Some c.in-AndCell.is in
    omega (
      arith,
      right-less c.args.heading.now.position c.args.heading.now.winner c.args.links.now c.args.steps.now c.args.marks.now
          c.args.position.now c.args.place _ _ c.requires.right at c.requires.due,
      length-set c.args.marks.now c.in-AndCell.left true,
    )

pub returns : goal.returns
returns c =
    let at : slice_get c.args.steps.now c.args.place ≡ Some (AndCell c.in-AndCell.left c.in-AndCell.right) =
    slice_get_read c.args.steps.now (length c.args.steps.now) c.args.place _ refl c.requires.within c.index-steps-place.is
    ∙ ap Some c.in-AndCell.is in
    let one = left-less c.args.heading.now.position c.args.heading.now.winner c.args.links.now c.args.steps.now c.args.marks.now
    c.args.position.now c.args.place _ _ c.requires.right at c.requires.due in
    let two = right-less c.args.heading.now.position c.args.heading.now.winner c.args.links.now c.args.steps.now c.args.marks.now
    c.args.position.now c.args.place _ _ c.requires.right at c.requires.due in
    taken-moved c.args.heading.now.position c.args.heading.now.winner c.args.links.now c.args.steps.now c.args.marks.now c.args.position.now
    c.args.place _ _ c.requires.right at c.requires.due
    _ _ _ _ c.size.ensures.value c.carrier_at-whole.ensures c.carrier_at-first.ensures c.carrier_at-second.ensures _
    c.cell_between-cell.ensures _ (omega arith) (omega arith) c.play.ensures
