use Rattle.std.proofs.Common.{rules, ◌≡◌, ℕ, false, List, length, set, refl, sym, ap, ◌∙◌, subst, Some, arith, ◌<◌}
use Rattle.std.specs.Prelude.{slice_get}
use Rattle.std.proofs.lemmas.Option.{slice_get_read}
use Rattle.hx_link.specs.declared.steps.Step.TheVariants.{Or}
use Rattle.hx_link.proofs.LinkLaws.{steps-length}
use Rattle.hx_play.specs.Kept.{IsSpared}
use Rattle.hx_play.proofs.MarkLaws.{without-set}
use Rattle.hx_play.proofs.MoveLaws.{none_spared, or_out}
use Rattle.hx_play.proofs.TakeLaws.{place-within, none-chain, kept-or, or_step}
use Rattle.hx_play.proofs.kept.move_in_kept.Goals as goal

pub next_link-requires : goal.next_link-requires
next_link-requires c =
    omega (arith, steps-length c.args.heading.now.position c.args.heading.now.winner _ c.args.steps.now c.args.links.now c.requires.right)

pub returns-in_default : goal.returns-in_default
returns-in_default c =
    let parted = c.take_all_apart.ensures c.args.stone c.args.position.now c.requires.kept in
    none-chain c.args.heading.now.position c.args.heading.now.winner c.args.links.now c.take_all_apart.new.marks c.args.stone
    c.args.position.now parted.kept c.in_default.ensures

pub offset_bounds-steps-chosen : goal.offset_bounds-steps-chosen
offset_bounds-steps-chosen c =
    let less : c.in-Some.chosen < length c.args.steps.now =
    place-within c.args.heading.now.position c.args.heading.now.winner c.args.steps.now c.args.links.now c.in-Some.chosen
    c.in-Some.ensures.link c.requires.right c.in-Some.ensures.is_kept.there in
    search rules

pub bounds-steps-chosen : goal.bounds-steps-chosen
bounds-steps-chosen c =
    place-within c.args.heading.now.position c.args.heading.now.winner c.args.steps.now c.args.links.now c.in-Some.chosen
    c.in-Some.ensures.link c.requires.right c.in-Some.ensures.is_kept.there

pub unreachable-requires : goal.unreachable-requires
unreachable-requires c =
    let less : c.in-Some.chosen < length c.args.steps.now =
    place-within c.args.heading.now.position c.args.heading.now.winner c.args.steps.now c.args.links.now c.in-Some.chosen
    c.in-Some.ensures.link c.requires.right c.in-Some.ensures.is_kept.there in
    let parted = c.take_all_apart.ensures c.args.stone c.args.position.now c.requires.kept in
    let at = slice_get_read c.args.steps.now (length c.args.steps.now) c.in-Some.chosen _ refl less c.index-steps-chosen.is in
    let w = or_step _ (kept-or c.args.heading.now.position c.args.heading.now.winner c.args.steps.now c.args.links.now
    c.take_all_apart.new.marks c.args.stone c.args.position.now c.in-Some.chosen
    c.in-Some.ensures.link _ parted c.in-Some.ensures.is_kept at) in
    c.in_default-steps.not-Or w.0 w.1

pub unreachable-requires-in_default-spared_part : goal.unreachable-requires-in_default-spared_part
unreachable-requires-in_default-spared_part c =
    let less : c.in-Some.chosen < length c.args.steps.now =
    place-within c.args.heading.now.position c.args.heading.now.winner c.args.steps.now c.args.links.now c.in-Some.chosen
    c.in-Some.ensures.link c.requires.right c.in-Some.ensures.is_kept.there in
    let parted = c.take_all_apart.ensures c.args.stone c.args.position.now c.requires.kept in
    let at : slice_get c.args.steps.now c.in-Some.chosen ≡ Some (Or c.in-Or.parts) =
    slice_get_read c.args.steps.now (length c.args.steps.now) c.in-Some.chosen _ refl less c.index-steps-chosen.is ∙ ap Some c.in-Or.is in
    none_spared c.args.heading.now.position c.args.heading.now.winner c.args.links.now c.args.steps.now c.take_all_apart.new.marks
    (set c.take_all_apart.new.marks c.in-Some.chosen false)
    c.args.stone c.args.position.now c.in-Some.chosen c.in-Or.parts c.requires.right at
    (λ p s. let P : List ℕ → Type 0 = λ ps. IsSpared c.args.links.now ps c.args.stone p in c.in_default-spared_part.ensures p
    (subst P (sym c.items.ensures) s))

pub take_cell-requires-clause-within : goal.take_cell-requires-clause-within
take_cell-requires-clause-within c =
    place-within c.args.heading.now.position c.args.heading.now.winner c.args.steps.now c.args.links.now c.in-Some-spared_part.part
    c.in-Some-spared_part.ensures.link c.requires.right
    c.in-Some-spared_part.ensures.there

pub take_cell-requires-clause-due : goal.take_cell-requires-clause-due
take_cell-requires-clause-due c =
    let less : c.in-Some.chosen < length c.args.steps.now =
    place-within c.args.heading.now.position c.args.heading.now.winner c.args.steps.now c.args.links.now c.in-Some.chosen
    c.in-Some.ensures.link c.requires.right c.in-Some.ensures.is_kept.there in
    let parted = c.take_all_apart.ensures c.args.stone c.args.position.now c.requires.kept in
    let at : slice_get c.args.steps.now c.in-Some.chosen ≡ Some (Or c.in-Or.parts) =
    slice_get_read c.args.steps.now (length c.args.steps.now) c.in-Some.chosen _ refl less c.index-steps-chosen.is ∙ ap Some c.in-Or.is in
    let P : List ℕ → Type 0 = λ ps. IsSpared c.args.links.now ps c.args.stone c.in-Some-spared_part.part in
    let here : c.in-Some.chosen < length c.take_all_apart.new.marks = omega arith in
    or_out c.args.heading.now.position c.args.heading.now.winner c.args.links.now c.args.steps.now c.take_all_apart.new.marks
    (set c.take_all_apart.new.marks c.in-Some.chosen false)
    c.args.stone c.args.position.now c.in-Some.chosen c.in-Or.parts c.requires.right at
    parted.kept c.in-Some.ensures (without-set c.take_all_apart.new.marks c.in-Some.chosen here)
    c.in-Some-spared_part.part (subst P c.items.ensures c.in-Some-spared_part.ensures)
