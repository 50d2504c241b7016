-- Each setting has a name of its own, and no name has an equals sign. So a word that begins with a name and an equals
-- sign is no name, and tells both the setting and the value.
use Rattle.std.proofs.Common.{◌≡◌, ◌≢◌, ℕ, List, ◌∷◌, ◌++◌, get_or, refl, ap, subst, arith, rules}
use Rattle.hx_lex.specs.Marks.{Lacks}
use Rattle.hx_lex.proofs.Cuts.{cut_same, cut_rest, Lacks-append_mark}
use Rattle.hx_cli.specs.declared.settings.Setting.{Setting}
use Rattle.hx_cli.specs.declared.settings.Setting.TheVariants.{Workers, Budget, Proofs}
use Rattle.hx_cli.specs.Settings.{name_of}
use Rattle.hx_cli.specs.Choices.{plain_tree_flag}

-- names that differ in their third letters
apart : {Same : Type 0} (name other : List ℕ) → get_or name 2 0 ≢ get_or other 2 0 → name ≡ other → Same
apart name other letters e = absurd (letters (ap (λ (w : List ℕ). get_or w 2 0) e))

pub name_of-injective : (a b : Setting) → name_of a ≡ name_of b → a ≡ b
name_of-injective Workers Workers e = refl
name_of-injective Workers Budget e = apart (name_of Workers) (name_of Budget) (omega arith) e
name_of-injective Workers Proofs e = apart (name_of Workers) (name_of Proofs) (omega arith) e
name_of-injective Budget Workers e = apart (name_of Budget) (name_of Workers) (omega arith) e
name_of-injective Budget Budget e = refl
name_of-injective Budget Proofs e = apart (name_of Budget) (name_of Proofs) (omega arith) e
name_of-injective Proofs Workers e = apart (name_of Proofs) (name_of Workers) (omega arith) e
name_of-injective Proofs Budget e = apart (name_of Proofs) (name_of Budget) (omega arith) e
name_of-injective Proofs Proofs e = refl

pub Lacks-name_of : (setting : Setting) → Lacks 61 (name_of setting)
Lacks-name_of Workers = search rules
Lacks-name_of Budget = search rules
Lacks-name_of Proofs = search rules

-- a name is no name before an equals sign
pub name_alone : (a b : Setting) (value : List ℕ) → name_of a ≡ name_of b ++ 61 ∷ value → ⊥
name_alone a b value e =
    let P : List ℕ → Type 0 = λ name. Lacks 61 name in
    Lacks-append_mark 61 (name_of b) value (subst P e (Lacks-name_of a))

pub joined_name : (a b : Setting) (x y : List ℕ) → name_of a ++ 61 ∷ x ≡ name_of b ++ 61 ∷ y → a ≡ b
joined_name a b x y e =
    name_of-injective a b (cut_same 61 (name_of a) (name_of b) x y (Lacks-name_of a) (Lacks-name_of b) e)

pub joined_value : (a b : Setting) (x y : List ℕ) → name_of a ++ 61 ∷ x ≡ name_of b ++ 61 ∷ y → x ≡ y
joined_value a b x y e = cut_rest 61 (name_of a) (name_of b) x y (Lacks-name_of a) (Lacks-name_of b) e

-- words that differ in their fourth letters
fourth_apart : (word other : List ℕ) → get_or word 3 0 ≢ get_or other 3 0 → word ≡ other → ⊥
fourth_apart word other letters e = letters (ap (λ (w : List ℕ). get_or w 3 0) e)

-- the flag is no name of a setting, since their fourth letters differ
pub flag_is_no_name : (setting : Setting) → plain_tree_flag ≡ name_of setting → ⊥
flag_is_no_name Workers e = fourth_apart plain_tree_flag (name_of Workers) (omega arith) e
flag_is_no_name Budget e = fourth_apart plain_tree_flag (name_of Budget) (omega arith) e
flag_is_no_name Proofs e = fourth_apart plain_tree_flag (name_of Proofs) (omega arith) e

Lacks-flag : Lacks 61 plain_tree_flag
Lacks-flag = search rules

-- nor does it have an equals sign behind a name
pub flag_is_not_joined : (setting : Setting) (value : List ℕ) → plain_tree_flag ≡ name_of setting ++ 61 ∷ value → ⊥
flag_is_not_joined setting value e =
    let P : List ℕ → Type 0 = λ word. Lacks 61 word in
    Lacks-append_mark 61 (name_of setting) value (subst P e Lacks-flag)
