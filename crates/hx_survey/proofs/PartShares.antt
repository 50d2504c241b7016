-- The share of those openings that were gone through.
use Rattle.std.proofs.Common.{◌≡◌, ℕ, true, false, sym, ◌∙◌, subst, ⊎_elim}
use Rattle.std.proofs.lemmas.Bool.{false≢true}
use Rattle.hx_board.specs.Sets.{has, insert, remove}
use Rattle.hx_board.specs.Cells.{Extent, OnBoard, IsLeastOn}
use Rattle.hx_board.proofs.SetLaws.{has-empty, has-insert_cases, has-insert_same, has-insert_other}
use Rattle.hx_board.proofs.SetLaws.{removed, removed_cases, removed_still}
use Rattle.hx_survey.specs.Shares.{IsInShare, IsShare}

-- of the cells that are not left the set has those of the share, and it has no others
pub record IsShareBut (size : Extent) (workers worker left share : ℕ) : Type 0 where
  pub inside : (cell : ℕ) → has share cell ≡ true → OnBoard size cell × (has left cell ≡ false) × IsInShare size workers worker cell
  pub each : (cell : ℕ) → OnBoard size cell → has left cell ≡ false → IsInShare size workers worker cell → has share cell ≡ true

pub share-begun : (size : Extent) (workers worker left : ℕ) → ((cell : ℕ) → OnBoard size cell → has left cell ≡ true)
    → IsShareBut size workers worker left 0
share-begun size workers worker left all = record {
  inside = λ cell h. absurd (false≢true (sym (has-empty cell) ∙ h));
  each = λ cell on gone _. absurd (false≢true (sym gone ∙ all cell on));
}

module _ (size : Extent) (workers worker left share cell : ℕ) (least : IsLeastOn size left cell)
    (before : IsShareBut size workers worker left share) where
  -- the next cell is in the share
  pub share-with : IsInShare size workers worker cell → IsShareBut size workers worker (remove left cell) (insert share cell)
  share-with taken = record {
    inside = λ n h. ⊎_elim
        (λ (e : n ≡ cell). (
          subst (OnBoard size) (sym e) least.on_board,
          subst (λ (k : ℕ). has (remove left cell) k ≡ false) (sym e) (removed left cell),
          subst (λ (k : ℕ). IsInShare size workers worker k) (sym e) taken,
        ))
        (λ (k : has share n ≡ true). let there = before.inside n k in (there.0, removed_still left cell n there.1, there.2))
        (has-insert_cases share cell n h);
    each = λ n on gone in_share. ⊎_elim
        (λ (e : n ≡ cell). subst (λ (k : ℕ). has (insert share cell) k ≡ true) (sym e) (has-insert_same share cell))
        (λ (out : has left n ≡ false). has-insert_other share cell n (before.each n on out in_share))
        (removed_cases left cell n gone);
  }

  -- the next cell is not in the share
  pub share-without : ¬ IsInShare size workers worker cell → IsShareBut size workers worker (remove left cell) share
  share-without passed = record {
    inside = λ n h. let there = before.inside n h in (there.0, removed_still left cell n there.1, there.2);
    each = λ n on gone in_share. ⊎_elim
        (λ (e : n ≡ cell). absurd (passed (subst (λ (k : ℕ). IsInShare size workers worker k) e in_share)))
        (λ (out : has left n ≡ false). before.each n on out in_share)
        (removed_cases left cell n gone);
  }

pub share-whole : (size : Extent) (workers worker left share : ℕ) → IsShareBut size workers worker left share
    → ((cell : ℕ) → OnBoard size cell → has left cell ≡ false) → IsShare size workers worker share
share-whole size workers worker left share is none cell = (
  (λ h. let there = is.inside cell h in (there.0, there.2)),
  (λ h. is.each cell h.0 (none cell h.0) h.1),
)
