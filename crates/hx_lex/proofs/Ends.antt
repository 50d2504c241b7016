-- Lists with one more element at their end: they are not empty, and are the same only where the front and the last
-- element are.
use Rattle.std.proofs.Common.{◌≡◌, List, [], ◌∷◌, ◌++◌, refl, ap, ◌∙◌}

pub push-some : {A : Type 0} (xs : List A) (x : A) → xs ++ x ∷ [] ≡ [] → ⊥
push-some [] x e = cc
push-some (first ∷ xs) x e = cc

push_injective_cons : {A : Type 0} (a b : A) (xs ys : List A) (x y : A) → a ≡ b → (xs ≡ ys) × (x ≡ y)
    → (a ∷ xs ≡ b ∷ ys) × (x ≡ y)
push_injective_cons {A} a b xs ys x y first rest = (ap (λ (h : A). h ∷ xs) first ∙ ap (λ (t : List A). b ∷ t) rest.0, rest.1)

pub push_injective : {A : Type 0} (xs ys : List A) (x y : A) → xs ++ x ∷ [] ≡ ys ++ y ∷ [] → (xs ≡ ys) × (x ≡ y)
push_injective [] [] x y e = (refl, cc)
push_injective [] (b ∷ ys) x y e = let none : ys ++ y ∷ [] ≡ [] = cc in absurd (push-some ys y none)
push_injective (a ∷ xs) [] x y e = let none : xs ++ x ∷ [] ≡ [] = cc in absurd (push-some xs x none)
push_injective (a ∷ xs) (b ∷ ys) x y e =
    let tails : xs ++ x ∷ [] ≡ ys ++ y ∷ [] = cc in
    let first : a ≡ b = cc in
    push_injective_cons a b xs ys x y first (push_injective xs ys x y tails)
