-- Marks that are set one after the other.
use Rattle.std.proofs.Common.{◌≡◌, ◌≢◌, ℕ, ◌<◌, Bool, true, false, List, length, set, get_or, sym, ◌∙◌, ◌⊎◌, inl, inr, ⊎_elim, arith}
use Rattle.std.proofs.Common.{get_or-set_other, get_or-set_same, length-set}
use Rattle.std.proofs.lemmas.Bool.{false≢true}
use Rattle.std.proofs.Math.Decide.{ℕ_discrete}
use Rattle.hx_play.specs.Kept.{IsMarked}
use Rattle.hx_play.proofs.KeptLaws.{IsWithout, IsWith}

set-same : (marks : List Bool) (place p : ℕ) (mark : Bool) → place < length marks → p ≡ place → get_or (set marks place mark) p false ≡ mark
set-same marks place p mark less same = rw same (get_or-set_same marks place mark false less)

set-other : (marks : List Bool) (place p : ℕ) (mark : Bool) → p ≢ place → get_or (set marks place mark) p false ≡ get_or marks p false
set-other marks place p mark differ = get_or-set_other marks place p mark false differ

pub without-set : (marks : List Bool) (place : ℕ) → place < length marks → IsWithout marks place (set marks place false)
without-set marks place less = record {
  from = λ p h. from p h (ℕ_discrete p place);
  stays = λ p h differ. set-other marks place p false differ ∙ h;
}
  where
    from : (p : ℕ) → IsMarked (set marks place false) p → Dec (p ≡ place) → IsMarked marks p × (p ≢ place)
    from p h (yes same) = absurd (false≢true (sym (set-same marks place p false less same) ∙ h))
    from p h (no differ) = (sym (set-other marks place p false differ) ∙ h, differ)

pub with-none : (marks : List Bool) → IsWith marks (λ p. ⊥) marks
with-none marks = record { from = λ p h. inl h; stays = λ p h. h; added = λ p none. absurd none }

pub with-one : (marks : List Bool) (place : ℕ) → place < length marks → IsWith marks (λ p. p ≡ place) (set marks place true)
with-one marks place less = record {
  from = λ p h. from p h (ℕ_discrete p place);
  stays = λ p h. stays p h (ℕ_discrete p place);
  added = λ p same. set-same marks place p true less same;
}
  where
    from : (p : ℕ) → IsMarked (set marks place true) p → Dec (p ≡ place) → IsMarked marks p ⊎ (p ≡ place)
    from p h (yes same) = inr same
    from p h (no differ) = inl (sym (set-other marks place p true differ) ∙ h)

    stays : (p : ℕ) → IsMarked marks p → Dec (p ≡ place) → IsMarked (set marks place true) p
    stays p h (yes same) = set-same marks place p true less same
    stays p h (no differ) = set-other marks place p true differ ∙ h

pub with-two : (marks : List Bool) (left right : ℕ) → left < length marks → right < length marks
    → IsWith marks (λ p. (p ≡ left) ⊎ (p ≡ right)) (set (set marks left true) right true)
with-two marks left right less less_too =
    let one : IsWith marks (λ p. p ≡ left) (set marks left true) = with-one marks left less in
    let two : IsWith (set marks left true) (λ p. p ≡ right) (set (set marks left true) right true) =
    with-one (set marks left true) right (omega (arith, length-set marks left true)) in
    record {
      from = λ p h. ⊎_elim (λ k. ⊎_elim inl (λ same. inr (inl same)) (one.from p k)) (λ same. inr (inr same)) (two.from p h);
      stays = λ p h. two.stays p (one.stays p h);
      added = λ p new. ⊎_elim (λ same. two.stays p (one.added p same)) (two.added p) new;
    }
