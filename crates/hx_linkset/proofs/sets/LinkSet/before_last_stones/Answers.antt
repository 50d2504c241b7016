use Rattle.std.proofs.Common.{◌≡◌, length, refl, ap, ◌∙◌, subst}
use Rattle.hx_linkset.specs.declared.plays.Stage.{Stage}
use Rattle.hx_linkset.specs.States.{Standing}
use Rattle.hx_linkset.specs.LastStones.{board_before}
use Rattle.hx_linkset.proofs.FieldLaws.{first, first-board}
use Rattle.hx_linkset.proofs.sets.LinkSet.before_last_stones.Goals as goal

pub returns : goal.returns
returns c =
    let first_is : c.before_last.result ≡ first _ _ _ _ _ _ _ _ _ _ _ c.self.invariant =
    rw (c.before_last.ensures, c.stage_of-now.ensures, c.as_slice.ensures, c.as_slice-2.ensures, c.as_slice-3.ensures.value) refl in
    let P : Standing → Type 0 = λ s. c.before_last.result.position ≡ board_before (length s.present.links) s.present.board s.past in
    subst P c.self.view_is (ap (λ (first : Stage). first.position) first_is ∙ first-board _ _ _ _ _ _ _ _ _ _ _ c.self.invariant)
