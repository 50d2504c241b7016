-- Where options lead. The words tell the first of them, and what was chosen before tells what is chosen then. So from
-- one start the same words lead to one end at which no option begins.
use Rattle.std.proofs.Common.{◌≡◌, ℕ, ◌≤◌, ◌==◌, true, false, List, [], ◌∷◌, length, String, refl, sym, ap, ◌∙◌, subst, arith}
use Rattle.std.specs.declared.alloc.Global.{Global}
use Rattle.std.proofs.lemmas.Bool.{eqb-true}
use Rattle.hx_limits.specs.declared.settings.Settings.{Settings}
use Rattle.hx_limits.specs.Settings.{AreSettings}
use Rattle.hx_cli.specs.declared.settings.Setting.{Setting}
use Rattle.hx_cli.specs.declared.settings.Setting.TheVariants.{Workers, Budget, Proofs}
use Rattle.hx_cli.specs.declared.options.Choice.{Choice}
use Rattle.hx_cli.specs.declared.choices.Chosen.{Chosen}
use Rattle.hx_cli.specs.Words.{words_of}
use Rattle.hx_cli.specs.Settings.{least_of, most_of}
use Rattle.hx_cli.specs.Choices.{Spelled, HasNoOption}
use Rattle.hx_cli.specs.Choices.{nothing, with_number, Adds, Lead, Done, Then, settings_of, AreChoices, AreChoicesAfter, LeadsAway}
use Rattle.hx_cli.proofs.Spellings.{Spelled-one, Spelled-some}

-- the same end
pub record IsEnd (words rest : List (List ℕ)) (before now : Chosen) : Type 0 where
  pub words_left : words ≡ rest
  pub chosen : before ≡ now

-- words that begin with no option lead no further
pub Lead-done : (words : List (List ℕ)) (before : Chosen) (rest : List (List ℕ)) (now : Chosen) → HasNoOption words
    → Lead words before rest now → IsEnd words rest before now
Lead-done words before rest now none (Done _ _ _ _ same is) = record { words_left = same; chosen = sym is }
Lead-done words before rest now none (Then _ _ _ _ choice later next spelled adds lead) =
    absurd (none choice later spelled)

Adds-one : (before : Chosen) (a b : Choice) (x y : Chosen) → a ≡ b → Adds before a x → Adds before b y → x ≡ y
Adds-one before a b x y same p q = p.same ∙ ap (λ (c : Choice). with_number before c.setting c.number) same ∙ sym q.same

-- what begins with an option goes on after it
pub Lead-then : (words : List (List ℕ)) (before : Chosen) (rest : List (List ℕ)) (now : Chosen) (choice : Choice)
    (later : List (List ℕ)) (next : Chosen) → HasNoOption rest → Spelled choice words later → Adds before choice next
    → Lead words before rest now → Lead later next rest now
Lead-then words before rest now choice later next last spelled adds (Done _ _ _ _ same is) =
    absurd (last choice later (subst (λ (ws : List (List ℕ)). Spelled choice ws later) same spelled))
Lead-then words before rest now choice later next last spelled adds (Then _ _ _ _ choice' later' next' spelled' adds' lead) =
    let one = Spelled-one words choice' choice later' later spelled' spelled in
    let nexts : next' ≡ next = Adds-one before choice' choice next' next one.choices adds' adds in
    let P : List (List ℕ) → Type 0 = λ words. Lead words next' rest now in
    let Q : Chosen → Type 0 = λ chosen. Lead later chosen rest now in
    subst Q nexts (subst P one.rests lead)

pub Lead-one : (words : List (List ℕ)) (before : Chosen) (x y : List (List ℕ)) (a b : Chosen) → HasNoOption x
    → HasNoOption y → Lead words before x a → Lead words before y b → IsEnd x y a b
Lead-one words before x y a b no_x no_y (Done _ _ _ _ same is) other =
    let end = Lead-done words before y b (subst HasNoOption (sym same) no_x) other in
    record { words_left = sym same ∙ end.words_left; chosen = is ∙ end.chosen }
Lead-one words before x y a b no_x no_y (Then _ _ _ _ choice later next spelled adds lead) other =
    Lead-one later next x y a b no_x no_y lead (Lead-then words before y b choice later next no_y spelled adds other)

-- words that begin with an option that may not come lead nowhere
pub Lead-no_addition : (words : List (List ℕ)) (before : Chosen) (rest : List (List ℕ)) (now : Chosen) (choice : Choice)
    (later : List (List ℕ)) → HasNoOption rest → Spelled choice words later
    → ((next : Chosen) → Adds before choice next → ⊥) → Lead words before rest now → ⊥
Lead-no_addition words before rest now choice later last spelled no_addition (Done _ _ _ _ same is) =
    last choice later (subst (λ (ws : List (List ℕ)). Spelled choice ws later) same spelled)
Lead-no_addition words before rest now choice later last spelled no_addition (Then _ _ _ _ choice' later' next' spelled' adds' lead) =
    let P : Choice → Type 0 = λ c. Adds before c next' in
    let one = Spelled-one words choice' choice later' later spelled' spelled in
    no_addition next' (subst P one.choices adds')

with_number-settings : (before : Chosen) (setting : Setting) (number : ℕ) → least_of setting ≤ number
    → number ≤ most_of setting
    → AreSettings (settings_of before) → AreSettings (settings_of (with_number before setting number))
with_number-settings before Workers number least most within =
    record { some_worker = least; few_workers = most; budget = within.budget; slots = within.slots }
with_number-settings before Budget number least most within =
    record { some_worker = within.some_worker; few_workers = within.few_workers; budget = most; slots = within.slots }
with_number-settings before Proofs number least most within =
    record { some_worker = within.some_worker; few_workers = within.few_workers; budget = within.budget; slots = most }

-- what options choose stays within the limits of a search
pub Lead-settings : (words : List (List ℕ)) (before : Chosen) (rest : List (List ℕ)) (now : Chosen)
    → Lead words before rest now → AreSettings (settings_of before) → AreSettings (settings_of now)
Lead-settings words before rest now (Done _ _ _ _ same is) within =
    let P : Chosen → Type 0 = λ chosen. AreSettings (settings_of chosen) in subst P (sym is) within
Lead-settings words before rest now (Then _ _ _ _ choice later next spelled adds lead) within =
    let P : Chosen → Type 0 = λ chosen. AreSettings (settings_of chosen) in
    Lead-settings later next rest now lead
    (subst P (sym adds.same) (with_number-settings before choice.setting choice.number adds.least adds.most within))

pub nothing-settings : AreSettings (settings_of nothing)
nothing-settings =
    record { some_worker = omega arith; few_workers = omega arith; budget = omega arith; slots = omega arith }

pub words_of-none : (words : List (String Global)) → true ≡ (length words == 0) → words_of words ≡ []
words_of-none [] e = refl
words_of-none (word ∷ words) e =
    let none : length (word ∷ words) ≡ 0 = eqb-true (length (word ∷ words)) 0 (sym e) in
    absurd (omega arith)

pub words_of-some : (words : List (String Global)) → false ≡ (length words == 0) → words_of words ≡ [] → ⊥
words_of-some [] e none = cc
words_of-some (word ∷ words) e none = cc

-- all that the words lead to from the start is what the rest of them leads to from here
pub record Goes (words : List (List ℕ)) (before : Chosen) (rest : List (List ℕ)) (chosen : Chosen) : Type 0 where
  pub forth : (last : List (List ℕ)) (now : Chosen) → HasNoOption last → Lead words before last now → Lead rest chosen last now
  pub back : (last : List (List ℕ)) (now : Chosen) → Lead rest chosen last now → Lead words before last now

-- at the start nothing was taken yet
pub goes-nowhere_yet : (words : List (List ℕ)) (before : Chosen) → Goes words before words before
goes-nowhere_yet words before = record { forth = λ last now none lead. lead; back = λ last now lead. lead }

pub Goes-then : (words : List (List ℕ)) (before : Chosen) (rest later : List (List ℕ)) (chosen next : Chosen)
    (choice : Choice) → Spelled choice rest later → Adds chosen choice next → Goes words before rest chosen
    → Goes words before later next
Goes-then words before rest later chosen next choice spelled adds goes = record {
  forth = λ last now none lead. Lead-then rest chosen last now choice later next none spelled adds (goes.forth last now none lead);
  back = λ last now lead. goes.back last now (Then rest chosen last now choice later next spelled adds lead);
}

-- where no further option begins the words lead there and no further
pub leads_away : (words : List (List ℕ)) (before : Chosen) (rest : List (List ℕ)) (chosen : Chosen)
    → Goes words before rest chosen → HasNoOption rest → LeadsAway words before rest chosen
leads_away words before rest chosen goes none =
    record { lead = goes.back rest chosen (Done rest chosen rest chosen refl refl); last = none }

-- no option begins without words
pub none-no_option : HasNoOption []
none-no_option choice rest spelled = Spelled-some choice [] rest refl spelled

-- from one start the words are options for one choice of settings
pub AreChoicesAfter-one : (before : Chosen) (words : List (List ℕ)) (a b : Settings) → AreChoicesAfter before words a
    → AreChoicesAfter before words b → a ≡ b
AreChoicesAfter-one before words a b p q =
    let end = Lead-one words before [] [] p.chosen q.chosen none-no_option none-no_option p.lead q.lead in
    p.same ∙ ap settings_of end.chosen ∙ sym q.same

pub AreChoicesAfter-settings : (before : Chosen) (words : List (List ℕ)) (settings : Settings)
    → AreSettings (settings_of before) → AreChoicesAfter before words settings → AreSettings settings
AreChoicesAfter-settings before words settings within options =
    let P : Settings → Type 0 = λ s. AreSettings s in
    subst P (sym options.same) (Lead-settings words before [] options.chosen options.lead within)

pub AreChoices-one : (words : List (List ℕ)) (a b : Settings) → AreChoices words a → AreChoices words b → a ≡ b
AreChoices-one words a b p q = AreChoicesAfter-one nothing words a b p q

pub AreChoices-settings : (words : List (List ℕ)) (settings : Settings) → AreChoices words settings
    → AreSettings settings
AreChoices-settings words settings options = AreChoicesAfter-settings nothing words settings nothing-settings options

-- words that lead no further than to some words are no options
pub AreChoicesAfter-no_end : (before : Chosen) (words rest : List (List ℕ)) (now : Chosen) → LeadsAway words before rest now
    → (rest ≡ [] → ⊥) → (settings : Settings) → AreChoicesAfter before words settings → ⊥
AreChoicesAfter-no_end before words rest now away some settings options =
    some (Lead-one words before rest [] now options.chosen away.last none-no_option away.lead options.lead).words_left
