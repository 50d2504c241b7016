-- Going through openings: what is left becomes less.
use Rattle.std.proofs.Common.{◌≡◌, ℕ, List, true, false, sym, ⊎_elim, subst}
use Rattle.hx_board.specs.Sets.{has, remove}
use Rattle.hx_board.specs.Cells.{Extent}
use Rattle.hx_board.proofs.SetLaws.{removed_cases}
use Rattle.hx_tree.specs.declared.nodes.Node.{Node}
use Rattle.hx_tree.specs.Entries.{Extends}
use Rattle.hx_survey.specs.Surveys.{HasOpening}
use Rattle.hx_survey.proofs.LaterOpenings.{opening-later}

-- each of these cells that is not left has an opening in the list
abbrev pub HasOpeningsBut : List Node → Extent → ℕ → ℕ → Type 0
HasOpeningsBut nodes size cells left = (cell : ℕ) → has cells cell ≡ true → has left cell ≡ false → HasOpening nodes size cell

module _ (size : Extent) (cells : ℕ) where
  -- one more was gone through
  pub through-next : (old new : List Node) (left cell : ℕ) → Extends old new → HasOpeningsBut old size cells left
      → HasOpening new size cell → HasOpeningsBut new size cells (remove left cell)
  through-next old new left cell more earlier there n inside gone = ⊎_elim
      (λ (e : n ≡ cell). subst (λ (k : ℕ). HasOpening new size k) (sym e) there)
      (λ (out : has left n ≡ false). opening-later old new size n more (earlier n inside out))
      (removed_cases left cell n gone)
