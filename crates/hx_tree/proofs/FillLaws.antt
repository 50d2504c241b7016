-- Fill steps that are done one after the other: what the rest of them does from the board so far, they all do from the
-- first.
use Rattle.std.proofs.Common.{◌≡◌, ℕ, ◌+◌, ◌<◌, ◌≤◌, List, [], ◌∷◌, length, drop, get_or, refl, sym, ap, ◌∙◌, subst, ◌↔◌}
use Rattle.std.proofs.lemmas.List.{drop_more}
use Rattle.std.proofs.Math.ListN.{drop_of_length-le}
use Rattle.hx_board.specs.declared.colours.Colour.{Colour}
use Rattle.hx_board.specs.Positions.{Board}
use Rattle.hx_inferior.specs.declared.fills.FillStep.{FillStep}
use Rattle.hx_inferior.specs.Inferior.{MayFill, filled}
use Rattle.hx_tree.specs.Fills.{MayFillAll, filled_all}

-- from the board so far, the rest of the steps may be done exactly where all may be done from the first board, and they
-- come to the same
pub record ComesToSame (first : Board) (winner : Colour) (steps : List FillStep) (count : ℕ) (board : Board) : Type 0 where
  pub may : MayFillAll board winner (drop count steps) ↔ MayFillAll first winner steps
  pub same : filled_all board winner (drop count steps) ≡ filled_all first winner steps

pub no_step : (first : Board) (winner : Colour) (steps : List FillStep) → ComesToSame first winner steps 0 first
no_step first winner steps = record { may = ((λ may. may), (λ may. may)); same = refl }

module _ (first : Board) (winner : Colour) (steps : List FillStep) (count : ℕ) (board : Board)
    (before : ComesToSame first winner steps count board) where
  module _ (step : FillStep) (less : count < length steps) (is : step ≡ get_or steps count step) where
    here : drop count steps ≡ step ∷ drop (count + 1) steps
    here = drop_more steps count step less ∙ ap (λ (s : FillStep). s ∷ drop (count + 1) steps) (sym is)

    may_here : (MayFill board winner step × MayFillAll (filled board winner step) winner (drop (count + 1) steps))
        ↔ MayFillAll first winner steps
    may_here = subst (λ (rest : List FillStep). MayFillAll board winner rest ↔ MayFillAll first winner steps) here before.may

    same_here : filled_all (filled board winner step) winner (drop (count + 1) steps) ≡ filled_all first winner steps
    same_here = subst (λ (rest : List FillStep). filled_all board winner rest ≡ filled_all first winner steps) here before.same

    pub one_step_more : MayFill board winner step → ComesToSame first winner steps (count + 1) (filled board winner step)
    one_step_more may = record { may = ((λ rest. may_here.0 (may, rest)), (λ all. (may_here.1 all).1)); same = same_here }

    pub may_not : ¬ MayFill board winner step → ¬ MayFillAll first winner steps
    may_not none all = none (may_here.1 all).0

  at_end : length steps ≤ count → drop count steps ≡ []
  at_end end = drop_of_length-le steps end

  pub all_done : length steps ≤ count → MayFillAll first winner steps × (board ≡ filled_all first winner steps)
  all_done end = (
    (subst (λ (rest : List FillStep). MayFillAll board winner rest ↔ MayFillAll first winner steps) (at_end end) before.may).0 tt,
    subst (λ (rest : List FillStep). filled_all board winner rest ≡ filled_all first winner steps) (at_end end) before.same,
  )
