use Rattle.std.proofs.Common.{sym, subst, refl, inl, inr}
use Rattle.hx_link.specs.declared.steps.Step.{Step}
use Rattle.hx_linkset.specs.States.{Names}
use Rattle.hx_linkset.proofs.renaming.renamed_step.Goals as goal

pub bounds-names-left : goal.bounds-names-left
bounds-names-left c = let P : Step → Type 0 = λ s. Names s c.in-AndStone.left in
    c.requires c.in-AndStone.left (subst P (sym c.in-AndStone.is) (inl refl))

pub bounds-names-right : goal.bounds-names-right
bounds-names-right c = let P : Step → Type 0 = λ s. Names s c.in-AndStone.right in
    c.requires c.in-AndStone.right (subst P (sym c.in-AndStone.is) (inr refl))

pub bounds-names-left-in-AndCell : goal.bounds-names-left-in-AndCell
bounds-names-left-in-AndCell c = let P : Step → Type 0 = λ s. Names s c.in-AndCell.left in
    c.requires c.in-AndCell.left (subst P (sym c.in-AndCell.is) (inl refl))

pub bounds-names-right-in-AndCell : goal.bounds-names-right-in-AndCell
bounds-names-right-in-AndCell c = let P : Step → Type 0 = λ s. Names s c.in-AndCell.right in
    c.requires c.in-AndCell.right (subst P (sym c.in-AndCell.is) (inr refl))

pub renamed_parts-requires : goal.renamed_parts-requires
renamed_parts-requires c = λ place s. let P : Step → Type 0 = λ st. Names st place in
    c.requires place (subst P (sym c.in-Or.is) (rw c.items.ensures at s))
