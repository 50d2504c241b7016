use Rattle.std.proofs.Common.{sym, subst, refl, inl, inr, ℕ}
use Rattle.hx_link.specs.declared.steps.Step.{Step}
use Rattle.hx_linkset.specs.States.{Names}
use Rattle.hx_linkset.proofs.marks.mark_parts.Goals as goal

pub mark_all-requires : goal.mark_all-requires
mark_all-requires c = λ place s. let P : Step → Type 0 = λ st. Names st place in
    c.requires place (subst P (sym c.in-Or.is) (rw c.items.ensures at s))

pub mark_both-requires : goal.mark_both-requires
mark_both-requires c =
    let P : ℕ → Step → Type 0 = λ place st. Names st place in
    record {
      left = c.requires c.in-AndStone.left (subst (P c.in-AndStone.left) (sym c.in-AndStone.is) (inl refl));
      right = c.requires c.in-AndStone.right (subst (P c.in-AndStone.right) (sym c.in-AndStone.is) (inr refl));
    }

pub mark_both-requires-in-AndCell : goal.mark_both-requires-in-AndCell
mark_both-requires-in-AndCell c =
    let P : ℕ → Step → Type 0 = λ place st. Names st place in
    record {
      left = c.requires c.in-AndCell.left (subst (P c.in-AndCell.left) (sym c.in-AndCell.is) (inl refl));
      right = c.requires c.in-AndCell.right (subst (P c.in-AndCell.right) (sym c.in-AndCell.is) (inr refl));
    }
