-- Words tell how a search is asked for in one way: no option begins at the flag, so it stands where the options before
-- it end.
use Rattle.std.proofs.Common.{◌≡◌, ℕ, List, [], ◌∷◌, Bool, true, false, refl, sym, ap, ◌∙◌, subst}
use Rattle.hx_limits.specs.declared.settings.Settings.{Settings}
use Rattle.hx_limits.specs.Settings.{AreSettings}
use Rattle.hx_cli.specs.declared.choices.Chosen.{Chosen}
use Rattle.hx_cli.specs.Choices.{nothing, Lead, AreChoices, AreChoicesAfter, LeadsAway}
use Rattle.hx_cli.specs.Choices.{plain_tree_flag, AreAloneAfter, AreChoicesAndFlag, AreSearchChoices}
use Rattle.hx_cli.proofs.Spellings.{flag-no_option}
use Rattle.hx_cli.proofs.Leads.{Lead-one, Lead-settings, IsEnd, none-no_option, nothing-settings, AreChoices-one, AreChoices-settings}
use Rattle.hx_cli.proofs.Leads.{AreChoicesAfter-one, AreChoicesAfter-settings}

-- ---- options that end at some words

-- the flag is the first of the words at which the options end
pub flag-first : (words rest : List (List ℕ)) (now : Chosen) (settings : Settings) → LeadsAway words nothing rest now
    → (flagged : AreChoicesAndFlag words settings) → IsEnd rest (plain_tree_flag ∷ flagged.behind) now flagged.before
flag-first words rest now settings away flagged =
    Lead-one words nothing rest (plain_tree_flag ∷ flagged.behind) now flagged.before away.last (flag-no_option flagged.behind)
    away.lead flagged.in_front

-- options end where there are no words
pub options-end : (words rest : List (List ℕ)) (now : Chosen) (settings : Settings) → LeadsAway words nothing rest now
    → AreChoices words settings → rest ≡ []
options-end words rest now settings away options =
    (Lead-one words nothing rest [] now options.chosen away.last none-no_option away.lead options.lead).words_left

-- words that lead nowhere do not ask for a search
pub no_search-astray : (words : List (List ℕ)) → ((rest : List (List ℕ)) (now : Chosen) → LeadsAway words nothing rest now → ⊥)
    → (plain_tree : Bool) (settings : Settings) → AreSearchChoices plain_tree settings words → ⊥
no_search-astray words astray false settings options =
    astray [] options.chosen (record { lead = options.lead; last = none-no_option })
no_search-astray words astray true settings flagged =
    astray (plain_tree_flag ∷ flagged.behind) flagged.before
    (record { lead = flagged.in_front; last = flag-no_option flagged.behind })

-- nor do those that lead to a word that is not the flag
pub no_search-other_word : (words : List (List ℕ)) (word : List ℕ) (behind rest : List (List ℕ)) (now : Chosen)
    → LeadsAway words nothing rest now → rest ≡ word ∷ behind → (word ≡ plain_tree_flag → ⊥)
    → (plain_tree : Bool) (settings : Settings) → AreSearchChoices plain_tree settings words → ⊥
no_search-other_word words word behind rest now away parts other false settings options =
    let none : rest ≡ [] = options-end words rest now settings away options in
    cc
no_search-other_word words word behind rest now away parts other true settings flagged =
    let first = flag-first words rest now settings away flagged in
    let same : word ≡ plain_tree_flag = cc in
    other same

-- nor do those that lead to the flag, where the words behind it are no options for one worker
pub no_search-behind : (words : List (List ℕ)) (word : List ℕ) (behind rest : List (List ℕ)) (now : Chosen)
    → LeadsAway words nothing rest now → rest ≡ word ∷ behind
    → ((settings : Settings) → AreAloneAfter now behind settings → ⊥)
    → (plain_tree : Bool) (settings : Settings) → AreSearchChoices plain_tree settings words → ⊥
no_search-behind words word behind rest now away parts none false settings options =
    let end : rest ≡ [] = options-end words rest now settings away options in
    cc
no_search-behind words word behind rest now away parts none true settings flagged =
    let first = flag-first words rest now settings away flagged in
    let same : flagged.behind ≡ behind = cc in
    let P : List (List ℕ) → Type 0 = λ ws. AreAloneAfter now ws settings in
    let Q : Chosen → Type 0 = λ chosen. AreAloneAfter chosen flagged.behind settings in
    none settings (subst P same (subst Q (sym first.chosen) flagged.after))

-- the flag stands where the options before it end
pub flag-stands : (words : List (List ℕ)) (word : List ℕ) (behind rest : List (List ℕ)) (now : Chosen) (settings : Settings)
    → LeadsAway words nothing rest now → rest ≡ word ∷ behind → word ≡ plain_tree_flag → AreAloneAfter now behind settings
    → AreChoicesAndFlag words settings
flag-stands words word behind rest now settings away parts is after =
    let whole : rest ≡ plain_tree_flag ∷ behind = parts ∙ ap (λ (w : List ℕ). w ∷ behind) is in
    let P : List (List ℕ) → Type 0 = λ ws. Lead words nothing ws now in
    record { before = now; behind = behind; in_front = subst P whole away.lead; after = after }

-- ---- one search

flag-one : (words : List (List ℕ)) (a b : Settings) → AreChoicesAndFlag words a → AreChoicesAndFlag words b → a ≡ b
flag-one words a b p q =
    let first = flag-first words (plain_tree_flag ∷ p.behind) p.before b
    (record { lead = p.in_front; last = flag-no_option p.behind }) q in
    let same : q.behind ≡ p.behind = cc in
    let P : List (List ℕ) → Type 0 = λ ws. AreChoicesAfter p.before ws b in
    let Q : Chosen → Type 0 = λ chosen. AreChoicesAfter chosen q.behind b in
    AreChoicesAfter-one p.before p.behind a b p.after.0 (subst P same (subst Q (sym first.chosen) q.after.0))

flag-not_alone : (words : List (List ℕ)) (a b : Settings) → AreChoices words a → AreChoicesAndFlag words b → ⊥
flag-not_alone words a b options flagged =
    let end : [] ≡ plain_tree_flag ∷ flagged.behind =
    (flag-first words [] options.chosen b (record { lead = options.lead; last = none-no_option }) flagged).words_left in
    cc

pub choices-settings : (words : List (List ℕ)) (plain_tree : Bool) (a b : Settings) → AreSearchChoices plain_tree a words
    → AreSearchChoices plain_tree b words → a ≡ b
choices-settings words false a b p q = AreChoices-one words a b p q
choices-settings words true a b p q = flag-one words a b p q

pub choices-flag : (words : List (List ℕ)) (m n : Bool) (a b : Settings) → AreSearchChoices m a words → AreSearchChoices n b words
    → m ≡ n
choices-flag words false false a b p q = refl
choices-flag words false true a b p q = absurd (flag-not_alone words a b p q)
choices-flag words true false a b p q = absurd (flag-not_alone words b a q p)
choices-flag words true true a b p q = refl

-- the settings stay within the limits of a search
pub choices-limits : (words : List (List ℕ)) (plain_tree : Bool) (settings : Settings) → AreSearchChoices plain_tree settings words
    → AreSettings settings
choices-limits words false settings options = AreChoices-settings words settings options
choices-limits words true settings flagged =
    AreChoicesAfter-settings flagged.before flagged.behind settings
    (Lead-settings words nothing (plain_tree_flag ∷ flagged.behind) flagged.before flagged.in_front nothing-settings) flagged.after.0
