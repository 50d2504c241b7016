-- The options of a search.
use Rattle.std.specs.Prelude.{◌≡◌, ◌⊎◌, ℕ, ◌^◌, ◌≤◌, List, [], ◌∷◌, ◌++◌, length, codes, Bool, true, false}
use Rattle.std.specs.List.{Contains}
use Rattle.std.specs.Str.Parse.{IsNumeral, digits_value}
use Rattle.hx_limits.specs.declared.settings.Settings.{Settings}
use Rattle.hx_limits.specs.Settings.{defaults}

-- one decimal digit or more, at most 13, which are this number
pub record IsValue (value : List ℕ) (number : ℕ) : Type 0 where
  pub numeral : IsNumeral 10 value
  pub short : length value ≤ 13
  pub same : number ≡ digits_value 10 value

-- the words begin with an option of this name and this number, which is two words, or one with an equals sign (61), and
-- then there are the others
pub record IsOption (name : List ℕ) (number : ℕ) (words rest : List (List ℕ)) : Type 0 where
  pub value : List ℕ
  pub is_value : IsValue value number
  pub spelled : (words ≡ name ∷ value ∷ rest) ⊎ (words ≡ (name ++ 61 ∷ value) ∷ rest)

-- the option of this name and this number, which is within its limits, sets one of the settings
abbrev pub Sets : List ℕ → ℕ → Settings → Settings → Type 0
Sets name number before now =
    ((name ≡ codes "--workers") × (1 ≤ number) × (number ≤ 64) × (now ≡ record before { workers = number }))
    ⊎ (((name ≡ codes "--budget") × (number ≤ 2 ^ 40) × (now ≡ record before { budget = number }))
    ⊎ ((name ≡ codes "--proofs") × (number ≤ 1048576) × (now ≡ record before { slots = number })))

-- The words are options, one after the other, that lead from the settings before them to the chosen ones. None has a
-- name that was taken already. Where the tree is to be plain, they have the flag once among them.
pub data Choose (chosen : Settings) : Bool → List (List ℕ) → Settings → List (List ℕ) → Type 0 where
  End : (taken : List (List ℕ)) → Choose chosen false taken chosen []
  Flag : (taken : List (List ℕ)) (before : Settings) (rest : List (List ℕ))
      → Choose chosen false taken before rest → Choose chosen true taken before (codes "--plain-tree" ∷ rest)
  Next : (plain_tree : Bool) (taken : List (List ℕ)) (before : Settings) (words : List (List ℕ))
      (name : List ℕ) (number : ℕ) (next : Settings) (rest : List (List ℕ))
      → IsOption name number words rest → ¬ Contains taken name → Sets name number before next
      → Choose chosen plain_tree (name ∷ taken) next rest → Choose chosen plain_tree taken before words

-- the words are options, and these are the settings that they choose
abbrev pub AreOptions : List (List ℕ) → Settings → Type 0
AreOptions words settings = Choose settings false [] defaults words
