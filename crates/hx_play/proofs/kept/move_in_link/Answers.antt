use Rattle.std.proofs.Common.{length, ap, sym, ◌∙◌, arith, ◌<◌}
use Rattle.std.proofs.lemmas.Option.{get_or_from_slice_get}
use Rattle.hx_link.specs.declared.links.Link.{Link}
use Rattle.hx_play.proofs.TakeLaws.{place-within, keep_due}
use Rattle.hx_play.proofs.kept.move_in_link.Goals as goal

pub bounds-marks-place : goal.bounds-marks-place
bounds-marks-place c =
    omega (
      arith,
      place-within c.args.heading.now.position c.args.heading.now.winner c.args.steps.now c.args.links.now c.args.place
          c.requires.due.0 c.requires.right c.requires.due.1,
    )

pub move_in_kept-requires-clause-kept : goal.move_in_kept-requires-clause-kept
move_in_kept-requires-clause-kept c =
    let less : c.args.place < length c.args.steps.now =
    place-within c.args.heading.now.position c.args.heading.now.winner c.args.steps.now c.args.links.now c.args.place c.requires.due.0
    c.requires.right c.requires.due.1 in
    keep_due c.args.heading.now.position c.args.heading.now.winner c.args.links.now c.args.marks.now _ c.args.position.now c.args.place
    c.requires.due.0 c.requires.due.2 c.requires.due.1
    (ap (λ (l : Link). l.kind) (sym (get_or_from_slice_get c.args.links.now c.args.place c.requires.due.0 _ c.requires.due.1))
    ∙ c.in-Full.is) (omega arith)

pub take_cell-requires-clause-within : goal.take_cell-requires-clause-within
take_cell-requires-clause-within c =
    place-within c.args.heading.now.position c.args.heading.now.winner c.args.steps.now c.args.links.now c.args.place c.requires.due.0
    c.requires.right c.requires.due.1

pub take_cell-requires-clause-due : goal.take_cell-requires-clause-due
take_cell-requires-clause-due c = record {
  link = c.requires.due.0;
  there = c.requires.due.1;
  semi = ap (λ (l : Link). l.kind) (sym (get_or_from_slice_get c.args.links.now c.args.place c.requires.due.0 _ c.requires.due.1))
      ∙ c.in-Semi.is;
  kept = c.requires.due.2;
}
