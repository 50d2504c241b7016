-- What options choose, one after the other, as the calls go from option to option: words for the functions inside the
-- crate alone. That they say the same as those of Options is proved.
use Rattle.std.specs.Prelude.{◌≡◌, ℕ, ◌≤◌, List, [], ◌∷◌, ◌++◌, codes, unwrap_or, Option, None, Some, Bool, true, false}
use Rattle.hx_limits.specs.declared.settings.Settings.{Settings}
use Rattle.hx_limits.specs.Settings.{defaults}
use Rattle.hx_cli.specs.declared.settings.Setting.{Setting}
use Rattle.hx_cli.specs.declared.settings.Setting.TheVariants.{Workers, Budget, Proofs}
use Rattle.hx_cli.specs.declared.options.Choice.{Choice}
use Rattle.hx_cli.specs.declared.choices.Chosen.{Chosen}
use Rattle.hx_cli.specs.Settings.{name_of, least_of, most_of}
use Rattle.hx_cli.specs.Options.{IsValue, Choose}

-- the word is the name of the setting, an equals sign, and a value which is the number
pub record IsJoined (choice : Choice) (word : List ℕ) : Type 0 where
  pub value : List ℕ
  pub is_value : IsValue value choice.number
  pub parts : word ≡ name_of choice.setting ++ 61 ∷ value

-- the words begin with an option that chooses this, as two words or as one, and then there are the others
pub data Spelled (choice : Choice) (words rest : List (List ℕ)) : Type 0 where
  Apart : (value : List ℕ) → IsValue value choice.number → words ≡ name_of choice.setting ∷ value ∷ rest
      → Spelled choice words rest
  Joined : (word : List ℕ) → IsJoined choice word → words ≡ word ∷ rest → Spelled choice words rest

-- the words begin with no option
abbrev pub HasNoOption : List (List ℕ) → Type 0
HasNoOption words = (choice : Choice) (rest : List (List ℕ)) → Spelled choice words rest → ⊥

abbrev pub nothing : Chosen
nothing = record { workers = None; budget = None; slots = None }

-- the number that was chosen for a setting
abbrev pub number_for : Chosen → Setting → Option ℕ
number_for chosen Workers = chosen.workers
number_for chosen Budget = chosen.budget
number_for chosen Proofs = chosen.slots

-- what was chosen, with this number for this setting
abbrev pub with_number : Chosen → Setting → ℕ → Chosen
with_number chosen Workers number = record chosen { workers = Some number }
with_number chosen Budget number = record chosen { budget = Some number }
with_number chosen Proofs number = record chosen { slots = Some number }

-- one choice more: the first for its setting, within its limits
pub record Adds (before : Chosen) (choice : Choice) (now : Chosen) : Type 0 where
  pub first : number_for before choice.setting ≡ None
  pub least : least_of choice.setting ≤ choice.number
  pub most : choice.number ≤ most_of choice.setting
  pub same : now ≡ with_number before choice.setting choice.number

-- The words begin with options, one after the other, that lead from what was chosen before them to what is chosen then,
-- and the rest comes after them.
pub data Lead : List (List ℕ) → Chosen → List (List ℕ) → Chosen → Type 0 where
  Done : (words : List (List ℕ)) (before : Chosen) (rest : List (List ℕ)) (now : Chosen)
      → words ≡ rest → now ≡ before → Lead words before rest now
  Then : (words : List (List ℕ)) (before : Chosen) (rest : List (List ℕ)) (now : Chosen)
      (choice : Choice) (later : List (List ℕ)) (next : Chosen)
      → Spelled choice words later → Adds before choice next → Lead later next rest now → Lead words before rest now

-- the words begin with options that lead there, and the rest begins with none
pub record LeadsAway (words : List (List ℕ)) (before : Chosen) (rest : List (List ℕ)) (now : Chosen) : Type 0 where
  pub lead : Lead words before rest now
  pub last : HasNoOption rest

-- each setting is the number that was chosen for it, or else its default
abbrev pub settings_of : Chosen → Settings
settings_of chosen = record {
  workers = unwrap_or chosen.workers defaults.workers;
  budget = unwrap_or chosen.budget defaults.budget;
  slots = unwrap_or chosen.slots defaults.slots;
}

-- the words are options, and with what was chosen before them these are the settings that they choose
pub record AreChoicesAfter (before : Chosen) (words : List (List ℕ)) (settings : Settings) : Type 0 where
  pub chosen : Chosen
  pub lead : Lead words before [] chosen
  pub same : settings ≡ settings_of chosen

-- the words are options, and these are the settings that they choose
abbrev pub AreChoices : List (List ℕ) → Settings → Type 0
AreChoices words settings = AreChoicesAfter nothing words settings

-- the flag for a tree of plain nodes
abbrev pub plain_tree_flag : List ℕ
plain_tree_flag = codes "--plain-tree"

-- the words are options, and with what was chosen before them they choose these settings, of one worker
abbrev pub AreAloneAfter : Chosen → List (List ℕ) → Settings → Type 0
AreAloneAfter before words settings = AreChoicesAfter before words settings × (settings.workers ≡ 1)

-- the words are options with the flag once among them, and these are the settings that they choose, of one worker
pub record AreChoicesAndFlag (words : List (List ℕ)) (settings : Settings) : Type 0 where
  pub before : Chosen
  pub behind : List (List ℕ)
  pub in_front : Lead words nothing (plain_tree_flag ∷ behind) before
  pub after : AreAloneAfter before behind settings

-- the words are options, with the flag among them where the tree is to be plain
abbrev pub AreSearchChoices : Bool → Settings → List (List ℕ) → Type 0
AreSearchChoices false settings words = AreChoices words settings
AreSearchChoices true settings words = AreChoicesAndFlag words settings

-- the words are options of `solve`, which choose one worker where they have the flag
abbrev pub AreSearchOptions : Bool → Settings → List (List ℕ) → Type 0
AreSearchOptions plain_tree settings words =
    Choose settings plain_tree [] defaults words × (plain_tree ≡ true → settings.workers ≡ 1)
