-- Bytes are cut at their first mark in one way: what is before it and what is behind it are told by the bytes.
use Rattle.std.proofs.Common.{◌≡◌, ℕ, List, [], ◌∷◌, ◌++◌, refl, ap, ◌∙◌}
use Rattle.hx_lex.specs.Marks.{Lacks}

-- a cut is the only one
pub cut_same : (mark : ℕ) (a b x y : List ℕ) → Lacks mark a → Lacks mark b → a ++ mark ∷ x ≡ b ++ mark ∷ y → a ≡ b
cut_same mark [] [] x y la lb e = refl
cut_same mark [] (b ∷ bs) x y la lb e = let first : b ≡ mark = cc in absurd (lb.0 first)
cut_same mark (a ∷ more) [] x y la lb e = let first : a ≡ mark = cc in absurd (la.0 first)
cut_same mark (a ∷ more) (b ∷ bs) x y la lb e =
    let first : a ≡ b = cc in
    let tails : more ++ mark ∷ x ≡ bs ++ mark ∷ y = cc in
    let rest : more ≡ bs = cut_same mark more bs x y la.1 lb.1 tails in
    ap (λ (h : ℕ). h ∷ more) first ∙ ap (λ (t : List ℕ). b ∷ t) rest

pub cut_rest : (mark : ℕ) (a b x y : List ℕ) → Lacks mark a → Lacks mark b → a ++ mark ∷ x ≡ b ++ mark ∷ y → x ≡ y
cut_rest mark [] [] x y la lb e = cc
cut_rest mark [] (b ∷ bs) x y la lb e = let first : b ≡ mark = cc in absurd (lb.0 first)
cut_rest mark (a ∷ more) [] x y la lb e = let first : a ≡ mark = cc in absurd (la.0 first)
cut_rest mark (a ∷ more) (b ∷ bs) x y la lb e = let tails : more ++ mark ∷ x ≡ bs ++ mark ∷ y = cc in
    cut_rest mark more bs x y la.1 lb.1 tails

pub Lacks-append_mark : (mark : ℕ) (a b : List ℕ) → Lacks mark (a ++ mark ∷ b) → ⊥
Lacks-append_mark mark [] b lacks = lacks.0 refl
Lacks-append_mark mark (x ∷ a) b lacks = Lacks-append_mark mark a b lacks.1
