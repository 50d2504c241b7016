-- The links that plays dropped. A list of them may be reversed; no play drops none; and those of two plays, one after
-- the other, are those of the first and then those of the second.
use Rattle.std.proofs.lemmas.Bool.{false≢true, or_left, or_right, or_cases}
use Rattle.std.proofs.lemmas.List.{take-append-drop}
use Rattle.std.proofs.lemmas.List.Folds.{list_any-append}
use Rattle.std.proofs.Common.{◌≡◌, ℕ, zero, suc, Bool, true, false, ◌||◌, List, [], ◌∷◌, ◌++◌, take, drop, reverse}
use Rattle.std.proofs.Common.{refl, sym, ap, ◌∙◌, subst, inl, inr, ⊎_elim, eqb}
use Rattle.std.specs.List.{list_any, IsDistinct}
use Rattle.hx_board.specs.declared.colours.Colour.{Colour}
use Rattle.hx_board.specs.Positions.{Board}
use Rattle.hx_link.specs.declared.links.Link.{Link}
use Rattle.hx_linkset.specs.States.{IsLive}
use Rattle.hx_linkset.specs.Held.{IsIn, AreAllDropped}
use Rattle.hx_linkset.specs.History.{HasDropped}
use Rattle.hx_linkset.proofs.PassLaws.{reverse-first}

-- ---- membership

pub in-front : (xs ys : List ℕ) (place : ℕ) → IsIn xs place → IsIn (xs ++ ys) place
in-front xs ys place k = list_any-append (eqb place) xs ys ∙ or_left _ _ k

pub in-back : (xs ys : List ℕ) (place : ℕ) → IsIn ys place → IsIn (xs ++ ys) place
in-back xs ys place k = list_any-append (eqb place) xs ys ∙ or_right _ _ k

pub in-either : {P : Type 0} (xs ys : List ℕ) (place : ℕ) → (IsIn xs place → P) → (IsIn ys place → P) → IsIn (xs ++ ys) place → P
in-either xs ys place f g k = ⊎_elim f g (or_cases _ _ (sym (list_any-append (eqb place) xs ys) ∙ k))

pub in-drop : (n : ℕ) (xs : List ℕ) (place : ℕ) → IsIn (drop n xs) place → IsIn xs place
in-drop n xs place k = let P : List ℕ → Type 0 = λ zs. IsIn zs place in
    subst P (take-append-drop n xs) (in-back (take n xs) (drop n xs) place k)

or-swapped : (a b : Bool) → (a || (b || false)) ≡ (b || a)
or-swapped true true = refl
or-swapped true false = refl
or-swapped false true = refl
or-swapped false false = refl

pub any-reverse : (p : ℕ → Bool) (xs : List ℕ) → list_any p (reverse xs) ≡ list_any p xs
any-reverse p [] = refl
any-reverse p (x ∷ xs) =
    ap (list_any p) (reverse-first x xs)
    ∙ (list_any-append p (reverse xs) (x ∷ [])
    ∙ (ap (λ b. b || list_any p (x ∷ [])) (any-reverse p xs) ∙ or-swapped (list_any p xs) (p x)))

pub distinct-drop : (n : ℕ) (xs : List ℕ) → IsDistinct eqb xs → IsDistinct eqb (drop n xs)
unfolding IsDistinct
distinct-drop zero xs d = d
distinct-drop (suc n) [] d = d
distinct-drop (suc n) (x ∷ xs) d = distinct-drop n xs d.1

-- ---- what plays dropped

pub dropped-reverse : (links : List Link) (before after : Board) (player : Colour) (bound : ℕ) (dropped : List ℕ)
    → AreAllDropped links before after player bound dropped → AreAllDropped links before after player bound (reverse dropped)
dropped-reverse links before after player bound dropped d = record {
  were_live = λ place k. d.were_live place (sym (any-reverse (eqb place) dropped) ∙ k);
  all = λ place link at lt live. ⊎_elim (λ still. inl still) (λ k. inr (any-reverse (eqb place) dropped ∙ k)) (d.all place link at lt live);
}

pub dropped-none : (player : Colour) (links : List Link) (board board' : Board) (dropped : List ℕ) → board' ≡ board → dropped ≡ []
    → HasDropped player links board' board dropped
dropped-none player links board board' dropped same none = record {
  fewer = λ link live. let P : Board → Type 0 = λ b. IsLive b player link in subst P (sym same) live;
  all_dropped = record {
    were_live = λ place k. absurd (false≢true (sym (ap (list_any (eqb place)) none) ∙ k));
    all = λ place link at lt live. let P : Board → Type 0 = λ b. IsLive b player link in inl (subst P same live);
  };
}

module _ (player : Colour) (links : List Link) (first second third : Board) (earlier later : List ℕ)
    (one : HasDropped player links first second earlier) (two : HasDropped player links second third later) where
  pub dropped-both : HasDropped player links first third (earlier ++ later)
  dropped-both = record {
    fewer = λ link live. one.fewer link (two.fewer link live);
    all_dropped = record {
      were_live = λ place k. in-either earlier later place
          (λ e. one.all_dropped.were_live place e)
          (λ l. let w = two.all_dropped.were_live place l in (w.0, (w.1.0, one.fewer w.0 w.1.1)))
          k;
      all = λ place link at lt live. ⊎_elim
          (λ still. ⊎_elim (λ live'. inl live') (λ l. inr (in-back earlier later place l)) (two.all_dropped.all place link at lt still))
          (λ e. inr (in-front earlier later place e))
          (one.all_dropped.all place link at lt live);
    };
  }
