-- The carrier of each link that right steps give has empty cells alone, by induction on the steps, and in it by the
-- rule of the step. A Base has no cell, the And over an empty cell adds that cell, and the other rules only unite
-- carriers.
use Rattle.std.proofs.Common.{◌≡◌, ℕ, zero, suc, List, [], ◌∷◌, ◌++◌, true, refl, sym, ◌∙◌, ⊎_elim, Some, subst}
use Rattle.std.proofs.lemmas.Bool.{false≢true}
use Rattle.std.specs.Prelude.{slice_get}
use Rattle.hx_board.specs.declared.colours.Colour.{Colour}
use Rattle.hx_board.specs.declared.vertices.Vertex.{Vertex}
use Rattle.hx_board.specs.declared.vertices.Vertex.TheVariants.{Of}
use Rattle.hx_board.specs.Sets.{has, insert, union}
use Rattle.hx_board.specs.Positions.{Board, IsEmpty}
use Rattle.hx_board.proofs.SetLaws.{has-empty, has-union_cases, has-insert_cases}
use Rattle.hx_link.specs.declared.links.Link.{Link}
use Rattle.hx_link.specs.declared.steps.Step.{Step}
use Rattle.hx_link.specs.declared.steps.Step.TheVariants.{Base, AndStone, AndCell, Or}
use Rattle.hx_link.specs.Steps.{GoesOver, GivesByRule, carriers_of, AreRightSteps}
use Rattle.hx_link.specs.Named.{IsOneOf}
use Rattle.hx_link.proofs.LinkLaws.{place_of}
use Rattle.hx_proof.specs.Links.{AreEmpty}
use Rattle.hx_proof.proofs.LinkSoundness.{one_of_appended}

module _ (board : Board) (player : Colour) where
  -- ---- sets of empty cells

  none_are_empty : AreEmpty board 0
  none_are_empty cell inside = absurd (false≢true (sym (has-empty cell) ∙ inside))

  union_is_empty : (one other : ℕ) → AreEmpty board one → AreEmpty board other → AreEmpty board (union one other)
  union_is_empty one other empty empty_too cell inside = ⊎_elim (empty cell) (empty_too cell) (has-union_cases one other cell inside)

  insert_is_empty : (set cell : ℕ) → AreEmpty board set → IsEmpty board cell → AreEmpty board (insert set cell)
  insert_is_empty set cell empty here n inside =
      ⊎_elim (λ same. let P : ℕ → Type 0 = λ k. IsEmpty board k in subst P (sym same) here) (empty n) (has-insert_cases set cell n inside)

  -- ---- the carriers of links

  abbrev pub HaveEmptyCarriers : List Link → Type 0
  HaveEmptyCarriers links = (part : Link) → IsOneOf part links → AreEmpty board part.carrier

  carriers_are_empty : (links : List Link) → HaveEmptyCarriers links → AreEmpty board (carriers_of links)
  carriers_are_empty [] empty = none_are_empty
  carriers_are_empty (link ∷ links) empty =
      union_is_empty link.carrier (carriers_of links) (empty link (zero, refl))
      (carriers_are_empty links (λ part w. empty part (suc w.0, w.1)))

  module _ (before : List Link) (empty : HaveEmptyCarriers before) where
    both_are_empty : (left right : ℕ) (middle : Vertex) (link : Link) (over : GoesOver before left right middle link)
        → AreEmpty board (union over.first.carrier over.second.carrier)
    both_are_empty left right middle link over =
        union_is_empty over.first.carrier over.second.carrier
        (empty over.first (left, over.first_there)) (empty over.second (right, over.second_there))

    step_has_empty_carrier : (step : Step) (link : Link) → GivesByRule board player before step link → AreEmpty board link.carrier
    step_has_empty_carrier (Base a b) link g = rw g.carrier none_are_empty
    step_has_empty_carrier (AndStone left right) link g =
        rw g.carrier (both_are_empty left right g.middle link g.over)
    step_has_empty_carrier (AndCell left right) link g =
        rw g.carrier
        (insert_is_empty (union g.over.first.carrier g.over.second.carrier) g.cell
        (both_are_empty left right (Of g.cell) link g.over) g.empty)
    step_has_empty_carrier (Or places) link g =
        rw g.carrier
        (carriers_are_empty g.links
        (λ part w. let at = place_of before places g.links g.there w.0 part w.1 in empty part (at.0, at.1.1)))

  steps_have_empty_carriers : (before : List Link) (steps : List Step) (links : List Link) → HaveEmptyCarriers before
      → AreRightSteps board player before steps links → HaveEmptyCarriers links
  steps_have_empty_carriers before [] links empty g = rw g empty
  steps_have_empty_carriers before (step ∷ steps) links empty g =
      steps_have_empty_carriers (before ++ g.0 ∷ []) steps links
      (λ part w. ⊎_elim (empty part) (λ e. rw (← e) (step_has_empty_carrier before empty step g.0 g.1.rule))
      (one_of_appended before g.0 w.0 part w.1))
      g.2

  pub right_steps_have_empty_carriers : (steps : List Step) (links : List Link) → AreRightSteps board player [] steps links
      → HaveEmptyCarriers links
  right_steps_have_empty_carriers steps links right = steps_have_empty_carriers [] steps links (λ part w. absurd (cc w.1)) right
