-- Bytes cut at a mark into parts, as a line is cut at its spaces: there is a part always, and the bytes before the
-- first mark are the first part.
use Rattle.std.proofs.Common.{◌≡◌, ℕ, List, [], ◌∷◌, ◌++◌, refl, ap, Bool, true, false, eqb, cond}
use Rattle.std.proofs.lemmas.Bool.{eq-eqb, ne_eqb}
use Rattle.hx_lex.specs.Words.{in_first, split_at_marks}
use Rattle.hx_lex.specs.Marks.{Lacks}

pub split_at_marks-cut : (mark : ℕ) (before after : List ℕ) → Lacks mark before
    → split_at_marks mark (before ++ mark ∷ after) ≡ before ∷ split_at_marks mark after
unfolding split_at_marks
split_at_marks-cut mark [] after lacks = rw (eq-eqb mark mark refl) refl
split_at_marks-cut mark (byte ∷ bytes) after lacks =
    rw (ne_eqb byte mark lacks.0) (ap (λ (parts : List (List ℕ)). in_first byte parts) (split_at_marks-cut mark bytes after lacks.1))

pub split_at_marks-lacks : (mark : ℕ) (bytes : List ℕ) → Lacks mark bytes → split_at_marks mark bytes ≡ bytes ∷ []
unfolding split_at_marks
split_at_marks-lacks mark [] lacks = refl
split_at_marks-lacks mark (byte ∷ bytes) lacks =
    rw (ne_eqb byte mark lacks.0) (ap (λ (parts : List (List ℕ)). in_first byte parts) (split_at_marks-lacks mark bytes lacks.1))

in_first-some : (byte : ℕ) (parts : List (List ℕ)) → in_first byte parts ≡ [] → ⊥
in_first-some byte [] e = cc
in_first-some byte (part ∷ parts) e = cc

cond-some : (test : Bool) (byte : ℕ) (parts : List (List ℕ)) → cond test ([] ∷ parts) (in_first byte parts) ≡ [] → ⊥
cond-some true byte parts e = cc
cond-some false byte parts e = in_first-some byte parts e

pub split_at_marks-some : (mark : ℕ) (bytes : List ℕ) → split_at_marks mark bytes ≡ [] → ⊥
unfolding split_at_marks
split_at_marks-some mark [] e = cc
split_at_marks-some mark (byte ∷ bytes) e = cond-some (eqb byte mark) byte (split_at_marks mark bytes) e
