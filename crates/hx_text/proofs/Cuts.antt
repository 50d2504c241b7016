-- Bytes cut into lines. Lines without an LF are the only ones that make their bytes, so of two ways to cut the same
-- bytes into such lines and a rest one goes on where the other ends.
use Rattle.std.proofs.Common.{◌≡◌, ℕ, ◌≤◌, List, [], ◌∷◌, ◌++◌, length, refl, sym, ap, ◌∙◌, subst, arith, append_assoc, length-append}
use Rattle.std.proofs.lemmas.List.{append-nil}
use Rattle.hx_lex.specs.Marks.{Lacks}
use Rattle.hx_lex.proofs.Cuts.{cut_same, cut_rest}
use Rattle.hx_text.specs.Grammars.{text_of}

pub text_of-push : (before : List (List ℕ)) (line rest : List ℕ)
    → text_of (before ++ line ∷ []) ++ rest ≡ text_of before ++ (line ++ 10 ∷ rest)
unfolding text_of
text_of-push [] line rest = append_assoc line (10 ∷ []) rest
text_of-push (first ∷ before) line rest =
    append_assoc first (10 ∷ text_of (before ++ line ∷ [])) rest
    ∙ ap (λ (t : List ℕ). first ++ 10 ∷ t) (text_of-push before line rest)
    ∙ sym (append_assoc first (10 ∷ text_of before) (line ++ 10 ∷ rest))

-- each line has an LF
pub length-text_of : (lines : List (List ℕ)) → length lines ≤ length (text_of lines)
unfolding text_of
length-text_of [] = omega arith
length-text_of (line ∷ lines) = omega (arith, length-append line (10 ∷ text_of lines), length-text_of lines)

pub ended-some : (line later : List ℕ) → line ++ 10 ∷ later ≡ [] → ⊥
ended-some [] later e = cc
ended-some (byte ∷ line) later e = cc

-- lines without an LF
abbrev pub AllLack : List (List ℕ) → Type 0
AllLack [] = Unit {0}
AllLack (line ∷ lines) = Lacks 10 line × AllLack lines

pub Lacks-middle : (before : List (List ℕ)) (line : List ℕ) (rest : List (List ℕ)) → AllLack ((before ++ line ∷ []) ++ rest)
    → Lacks 10 line
Lacks-middle [] line rest all = all.0
Lacks-middle (first ∷ before) line rest all = Lacks-middle before line rest all.1

pub AllLack-append : (a b : List (List ℕ)) → AllLack a → AllLack b → AllLack (a ++ b)
AllLack-append [] b la lb = lb
AllLack-append (x ∷ a) b la lb = (la.0, AllLack-append a b la.1 lb)

pub AllLack-front : (before rest : List (List ℕ)) → AllLack (before ++ rest) → AllLack before
AllLack-front [] rest all = tt
AllLack-front (line ∷ before) rest all = (all.0, AllLack-front before rest all.1)

-- one of two ways to cut is the front of the other
pub data Agree (a b : List (List ℕ)) (x y : List ℕ) : Type 0 where
  Second_goes_on : (more : List (List ℕ)) → b ≡ a ++ more → x ≡ text_of more ++ y → Agree a b x y
  First_goes_on : (more : List (List ℕ)) → a ≡ b ++ more → y ≡ text_of more ++ x → Agree a b x y

Agree-cons : (line : List ℕ) (a b : List (List ℕ)) (x y : List ℕ) → Agree a b x y → Agree (line ∷ a) (line ∷ b) x y
Agree-cons line a b x y (Second_goes_on more is rest) = Second_goes_on more (ap (λ (ls : List (List ℕ)). line ∷ ls) is) rest
Agree-cons line a b x y (First_goes_on more is rest) = First_goes_on more (ap (λ (ls : List (List ℕ)). line ∷ ls) is) rest

pub agree : (a b : List (List ℕ)) (x y : List ℕ) → AllLack a → AllLack b → text_of a ++ x ≡ text_of b ++ y → Agree a b x y
unfolding text_of
agree [] b x y la lb e = Second_goes_on b refl e
agree (line ∷ a) [] x y la lb e = First_goes_on (line ∷ a) refl (sym e)
agree (line ∷ a) (other ∷ b) x y la lb e =
    let parts : line ++ 10 ∷ (text_of a ++ x) ≡ other ++ 10 ∷ (text_of b ++ y) = sym (append_assoc line (10 ∷ text_of a) x) ∙ e
    ∙ append_assoc other (10 ∷ text_of b) y in
    let same : line ≡ other = cut_same 10 line other (text_of a ++ x) (text_of b ++ y) la.0 lb.0 parts in
    let rest : text_of a ++ x ≡ text_of b ++ y = cut_rest 10 line other (text_of a ++ x) (text_of b ++ y) la.0 lb.0 parts in
    subst (λ (l : List ℕ). Agree (line ∷ a) (l ∷ b) x y) same (Agree-cons line a b x y (agree a b x y la.1 lb.1 rest))

-- lines are told by their text
pub text_injective : (a b : List (List ℕ)) → AllLack a → AllLack b → text_of a ≡ text_of b → a ≡ b
unfolding text_of
text_injective a b la lb e = same (agree a b [] [] la lb (ap (λ (t : List ℕ). t ++ []) e))
  where
    same : {a b : List (List ℕ)} → Agree a b [] [] → a ≡ b
    same {a} {b} (Second_goes_on [] is left) = sym (is ∙ append-nil a)
    same {a} {b} (Second_goes_on (next ∷ more) is left) =
        absurd (ended-some next (text_of more) (sym (append-nil (next ++ 10 ∷ text_of more)) ∙ sym left))
    same {a} {b} (First_goes_on [] is left) = is ∙ append-nil b
    same {a} {b} (First_goes_on (next ∷ more) is left) =
        absurd (ended-some next (text_of more) (sym (append-nil (next ++ 10 ∷ text_of more)) ∙ sym left))

pub text_of-append : (a b : List (List ℕ)) → text_of (a ++ b) ≡ text_of a ++ text_of b
unfolding text_of
text_of-append [] b = refl
text_of-append (line ∷ a) b = ap (λ (t : List ℕ). line ++ 10 ∷ t) (text_of-append a b)
    ∙ sym (append_assoc line (10 ∷ text_of a) (text_of b))
