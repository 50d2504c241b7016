-- That words are options says the same as that the calls go from option to option to the settings that are chosen. The
-- names that were taken are those of the settings for which a number was chosen.
use Rattle.std.proofs.Common.{◌≡◌, ◌≢◌, ◌⊎◌, inl, inr, ℕ, ◌≤◌, ◌++◌, ◌∷◌, [], List, Bool, true, false, refl, sym, ap, ◌∙◌, subst, arith}
use Rattle.std.specs.Prelude.{Option, None, Some}
use Rattle.std.specs.List.{Contains}
use Rattle.std.proofs.lemmas.List.Elements.{Contains-append_left, Contains-append_right, Contains-push}
use Rattle.std.proofs.lemmas.Map.Made.{Contains-tail}
use Rattle.hx_limits.specs.declared.settings.Settings.{Settings}
use Rattle.hx_limits.specs.Settings.{AreSettings, defaults}
use Rattle.hx_board.specs.Finds.{Finds}
use Rattle.hx_cli.specs.declared.settings.Setting.{Setting}
use Rattle.hx_cli.specs.declared.settings.Setting.TheVariants.{Workers, Budget, Proofs}
use Rattle.hx_cli.specs.declared.options.Choice.{Choice}
use Rattle.hx_cli.specs.declared.choices.Chosen.{Chosen}
use Rattle.hx_cli.specs.Options.{IsOption, Sets, Choose, End, Flag, Next, AreOptions}
use Rattle.hx_cli.specs.Settings.{name_of, least_of, most_of}
use Rattle.hx_cli.specs.Choices.{Spelled, Apart, Joined, nothing, number_for, with_number, Adds, Lead, Done, Then, settings_of}
use Rattle.hx_cli.specs.Choices.{AreChoicesAfter, AreChoices, AreSearchChoices, AreSearchOptions, plain_tree_flag}
use Rattle.hx_cli.proofs.Names.{name_of-injective}
use Rattle.hx_cli.proofs.Leads.{AreChoices-one, AreChoices-settings}
use Rattle.hx_cli.proofs.SearchWords.{choices-settings, choices-flag}

-- ---- one option

Spelled-option : (choice : Choice) (words rest : List (List ℕ)) → Spelled choice words rest
    → IsOption (name_of choice.setting) choice.number words rest
Spelled-option choice words rest (Apart value is_value parts) = record { value = value; is_value = is_value; spelled = inl parts }
Spelled-option choice words rest (Joined word joined parts) = record {
  value = joined.value;
  is_value = joined.is_value;
  spelled = inr (parts ∙ ap (λ (w : List ℕ). w ∷ rest) joined.parts);
}

option-Spelled : (setting : Setting) (number : ℕ) (words rest : List (List ℕ)) → IsOption (name_of setting) number words rest
    → Spelled (record { setting = setting; number = number }) words rest
option-Spelled setting number words rest is =
    by is.spelled
  where
    by : (words ≡ name_of setting ∷ is.value ∷ rest) ⊎ (words ≡ (name_of setting ++ 61 ∷ is.value) ∷ rest)
        → Spelled (record { setting = setting; number = number }) words rest
    by (inl parts) = Apart is.value is.is_value parts
    by (inr parts) = Joined (name_of setting ++ 61 ∷ is.value) (record { value = is.value; is_value = is.is_value; parts = refl }) parts

-- the option of this name sets the setting that has the name
Adds-sets : (before next : Chosen) (setting : Setting) (number : ℕ) → least_of setting ≤ number → number ≤ most_of setting
    → next ≡ with_number before setting number → Sets (name_of setting) number (settings_of before) (settings_of next)
Adds-sets before next Workers number least most same = inl (refl, least, most, ap settings_of same)
Adds-sets before next Budget number least most same = inr (inl (refl, most, ap settings_of same))
Adds-sets before next Proofs number least most same = inr (inr (refl, most, ap settings_of same))

-- ---- the names that were taken

same_or_not : (a b : Setting) → (a ≡ b) ⊎ (a ≢ b)
same_or_not Workers Workers = inl refl
same_or_not Workers Budget = inr (λ e. cc)
same_or_not Workers Proofs = inr (λ e. cc)
same_or_not Budget Workers = inr (λ e. cc)
same_or_not Budget Budget = inl refl
same_or_not Budget Proofs = inr (λ e. cc)
same_or_not Proofs Workers = inr (λ e. cc)
same_or_not Proofs Budget = inr (λ e. cc)
same_or_not Proofs Proofs = inl refl

number_for-with : (before : Chosen) (setting : Setting) (number : ℕ) → number_for (with_number before setting number) setting ≡ Some number
number_for-with before Workers number = refl
number_for-with before Budget number = refl
number_for-with before Proofs number = refl

number_for-other : (before : Chosen) (a b : Setting) (number : ℕ) → a ≢ b
    → number_for (with_number before a number) b ≡ number_for before b
number_for-other before Workers Workers number differ = absurd (differ refl)
number_for-other before Workers Budget number differ = refl
number_for-other before Workers Proofs number differ = refl
number_for-other before Budget Workers number differ = refl
number_for-other before Budget Budget number differ = absurd (differ refl)
number_for-other before Budget Proofs number differ = refl
number_for-other before Proofs Workers number differ = refl
number_for-other before Proofs Budget number differ = refl
number_for-other before Proofs Proofs number differ = absurd (differ refl)

record AreTaken (taken : List (List ℕ)) (chosen : Chosen) : Type 0 where
  free : (setting : Setting) → number_for chosen setting ≡ None → ¬ Contains taken (name_of setting)
  unchosen : (setting : Setting) → ¬ Contains taken (name_of setting) → number_for chosen setting ≡ None

none-AreTaken : AreTaken [] nothing
none-AreTaken = record { free = λ setting none is. omega (arith, is.1); unchosen = λ setting free. number_for-nothing setting }
  where
    number_for-nothing : (setting : Setting) → number_for nothing setting ≡ None
    number_for-nothing Workers = refl
    number_for-nothing Budget = refl
    number_for-nothing Proofs = refl

one_more-AreTaken : (taken : List (List ℕ)) (before next : Chosen) (setting : Setting) (number : ℕ) → AreTaken taken before
    → next ≡ with_number before setting number → AreTaken (name_of setting ∷ taken) next
one_more-AreTaken taken before next setting number are same = rw same (record { free = free_of; unchosen = unchosen_of })
  where
    head : Contains (name_of setting ∷ taken) (name_of setting)
    head = Contains-append_left (name_of setting ∷ []) taken (name_of setting) (Contains-push [] (name_of setting))

    free_by : (other : Setting) → (setting ≡ other) ⊎ (setting ≢ other) → number_for (with_number before setting number) other ≡ None
        → ¬ Contains (name_of setting ∷ taken) (name_of other)
    free_by other (inl is) none contains =
        let P : Setting → Type 0 = λ s. number_for (with_number before setting number) s ≡ Some number in
        let some : number_for (with_number before setting number) other ≡ Some number =
        subst P is (number_for-with before setting number) in
        cc
    free_by other (inr differ) none contains =
        are.free other (sym (number_for-other before setting other number differ) ∙ none)
        (Contains-tail (name_of setting) taken (name_of other) (λ e. differ (name_of-injective setting other e)) contains)

    free_of : (other : Setting) → number_for (with_number before setting number) other ≡ None
        → ¬ Contains (name_of setting ∷ taken) (name_of other)
    free_of other none contains = free_by other (same_or_not setting other) none contains

    unchosen_by : (other : Setting) → (setting ≡ other) ⊎ (setting ≢ other) → ¬ Contains (name_of setting ∷ taken) (name_of other)
        → number_for (with_number before setting number) other ≡ None
    unchosen_by other (inl is) free =
        absurd (free (subst (λ (s : Setting). Contains (name_of setting ∷ taken) (name_of s)) is head))
    unchosen_by other (inr differ) free =
        number_for-other before setting other number differ
        ∙ are.unchosen other (λ contains. free (Contains-append_right (name_of setting ∷ []) taken (name_of other) contains))

    unchosen_of : (other : Setting) → ¬ Contains (name_of setting ∷ taken) (name_of other)
        → number_for (with_number before setting number) other ≡ None
    unchosen_of other free = unchosen_by other (same_or_not setting other) free

-- ---- from the calls to options

-- options that lead to a place choose what is chosen from there
Lead-choose : (words : List (List ℕ)) (before : Chosen) (rest : List (List ℕ)) (now : Chosen) (plain_tree : Bool) (chosen : Settings)
    (taken : List (List ℕ)) → Lead words before rest now → AreTaken taken before
    → ((more : List (List ℕ)) → AreTaken more now → Choose chosen plain_tree more (settings_of now) rest)
    → Choose chosen plain_tree taken (settings_of before) words
Lead-choose words before rest now plain_tree chosen taken (Done _ _ _ _ same is) are goes_on =
    let P : Chosen → Type 0 = λ c. Choose chosen plain_tree taken (settings_of c) words in
    let Q : List (List ℕ) → Type 0 = λ ws. Choose chosen plain_tree taken (settings_of now) ws in
    subst P is (subst Q (sym same) (goes_on taken (subst (AreTaken taken) (sym is) are)))
Lead-choose words before rest now plain_tree chosen taken (Then _ _ _ _ choice later next spelled adds lead) are goes_on =
    Next plain_tree taken (settings_of before) words (name_of choice.setting) choice.number (settings_of next) later
    (Spelled-option choice words later spelled) (are.free choice.setting adds.first)
    (Adds-sets before next choice.setting choice.number adds.least adds.most adds.same)
    (Lead-choose later next rest now plain_tree chosen (name_of choice.setting ∷ taken) lead
    (one_more-AreTaken taken before next choice.setting choice.number are adds.same) goes_on)

After-choose : (before : Chosen) (words : List (List ℕ)) (chosen : Settings) (taken : List (List ℕ)) → AreTaken taken before
    → AreChoicesAfter before words chosen → Choose chosen false taken (settings_of before) words
After-choose before words chosen taken are choices =
    let P : Settings → List (List ℕ) → Type 0 = λ now more. Choose chosen false more now [] in
    Lead-choose words before [] choices.chosen false chosen taken choices.lead are
    (λ more is. subst (λ (now : Settings). P now more) choices.same (End more))

pub choices-options : (words : List (List ℕ)) (settings : Settings) → AreChoices words settings → AreOptions words settings
choices-options words settings choices = After-choose nothing words settings [] none-AreTaken choices

-- ---- from options to the calls

-- what the words are after what was chosen
record IsFlagAfter (before : Chosen) (words : List (List ℕ)) (settings : Settings) : Type 0 where
  middle : Chosen
  behind : List (List ℕ)
  in_front : Lead words before (plain_tree_flag ∷ behind) middle
  after : AreChoicesAfter middle behind settings

abbrev AreAfter : Bool → Chosen → List (List ℕ) → Settings → Type 0
AreAfter false before words settings = AreChoicesAfter before words settings
AreAfter true before words settings = IsFlagAfter before words settings

AreAfter-then : (plain_tree : Bool) (before next : Chosen) (words rest : List (List ℕ)) (settings : Settings) (choice : Choice)
    → Spelled choice words rest → Adds before choice next → AreAfter plain_tree next rest settings
    → AreAfter plain_tree before words settings
AreAfter-then false before next words rest settings choice spelled adds after = record {
  chosen = after.chosen;
  lead = Then words before [] after.chosen choice rest next spelled adds after.lead;
  same = after.same;
}
AreAfter-then true before next words rest settings choice spelled adds after = record {
  middle = after.middle;
  behind = after.behind;
  in_front = Then words before (plain_tree_flag ∷ after.behind) after.middle choice rest next spelled adds after.in_front;
  after = after.after;
}

-- the setting that an option sets
record IsSetting (name : List ℕ) (number : ℕ) (before : Chosen) (next : Settings) : Type 0 where
  setting : Setting
  named : name ≡ name_of setting
  least : least_of setting ≤ number
  most : number ≤ most_of setting
  same : next ≡ settings_of (with_number before setting number)

setting_of : (name : List ℕ) (number : ℕ) (before : Chosen) (next : Settings) → Sets name number (settings_of before) next
    → IsSetting name number before next
setting_of name number before next (inl is) =
    record { setting = Workers; named = is.0; least = is.1; most = is.2; same = is.3 }
setting_of name number before next (inr (inl is)) =
    record { setting = Budget; named = is.0; least = omega arith; most = is.1; same = is.2 }
setting_of name number before next (inr (inr is)) =
    record { setting = Proofs; named = is.0; least = omega arith; most = is.1; same = is.2 }

choose-after : (chosen : Settings) (plain_tree : Bool) (taken : List (List ℕ)) (before : Settings) (words : List (List ℕ))
    (numbers : Chosen) → Choose chosen plain_tree taken before words → AreTaken taken numbers → before ≡ settings_of numbers
    → AreAfter plain_tree numbers words chosen
choose-after chosen plain_tree taken before words numbers (End _) are same =
    record { chosen = numbers; lead = Done [] numbers [] numbers refl refl; same = same }
choose-after chosen plain_tree taken before words numbers (Flag _ _ rest choose) are same = record {
  middle = numbers;
  behind = rest;
  in_front = Done (plain_tree_flag ∷ rest) numbers (plain_tree_flag ∷ rest) numbers refl refl;
  after = choose-after chosen false taken before rest numbers choose are same;
}
choose-after chosen plain_tree taken before words numbers (Next _ _ _ _ name number next rest option free sets choose) are same =
    let is = setting_of name number numbers next (subst (λ (s : Settings). Sets name number s next) same sets) in
    let now : Chosen = with_number numbers is.setting number in
    let choice : Choice = record { setting = is.setting; number = number } in
    let unchosen : number_for numbers is.setting ≡ None =
    are.unchosen is.setting (λ contains. free (subst (Contains taken) (sym is.named) contains)) in
    let spelled : Spelled choice words rest =
    option-Spelled is.setting number words rest (subst (λ (n : List ℕ). IsOption n number words rest) is.named option) in
    let adds : Adds numbers choice now = record { first = unchosen; least = is.least; most = is.most; same = refl } in
    let taken_now : AreTaken (name ∷ taken) now =
    subst (λ (n : List ℕ). AreTaken (n ∷ taken) now) (sym is.named) (one_more-AreTaken taken numbers now is.setting number are refl) in
    AreAfter-then plain_tree numbers now words rest chosen choice spelled adds
    (choose-after chosen plain_tree (name ∷ taken) next rest now choose taken_now is.same)

pub options-choices : (words : List (List ℕ)) (settings : Settings) → AreOptions words settings → AreChoices words settings
options-choices words settings options = choose-after settings false [] defaults words nothing options none-AreTaken refl

pub found_choices : (words : List (List ℕ)) (found : Option Settings) → Finds found (AreChoices words) → Finds found (AreOptions words)
found_choices words None none = λ settings options. none settings (options-choices words settings options)
found_choices words (Some settings) choices = choices-options words settings choices

-- ---- the options of `solve`

pub choices-searches : (plain_tree : Bool) (settings : Settings) (words : List (List ℕ)) → AreSearchChoices plain_tree settings words
    → AreSearchOptions plain_tree settings words
choices-searches false settings words choices = (choices-options words settings choices, λ e. cc)
choices-searches true settings words flagged = (
  Lead-choose words nothing (plain_tree_flag ∷ flagged.behind) flagged.before true settings [] flagged.in_front none-AreTaken
      (λ more are. Flag more (settings_of flagged.before) flagged.behind
      (After-choose flagged.before flagged.behind settings more are flagged.after.0)),
  λ e. flagged.after.1,
)

pub searches-choices : (plain_tree : Bool) (settings : Settings) (words : List (List ℕ)) → AreSearchOptions plain_tree settings words
    → AreSearchChoices plain_tree settings words
searches-choices false settings words options = options-choices words settings options.0
searches-choices true settings words options =
    let flagged : IsFlagAfter nothing words settings =
    choose-after settings true [] defaults words nothing options.0 none-AreTaken refl in
    record {
      before = flagged.middle;
      behind = flagged.behind;
      in_front = flagged.in_front;
      after = (flagged.after, options.1 refl);
    }

-- ---- one choice of settings, within the limits of a search

pub AreOptions-one : (words : List (List ℕ)) (a b : Settings) → AreOptions words a → AreOptions words b → a ≡ b
AreOptions-one words a b p q = AreChoices-one words a b (options-choices words a p) (options-choices words b q)

pub AreOptions-settings : (words : List (List ℕ)) (settings : Settings) → AreOptions words settings → AreSettings settings
AreOptions-settings words settings options = AreChoices-settings words settings (options-choices words settings options)

pub search-settings : (words : List (List ℕ)) (plain_tree : Bool) (a b : Settings) → AreSearchOptions plain_tree a words
    → AreSearchOptions plain_tree b words → a ≡ b
search-settings words plain_tree a b p q =
    choices-settings words plain_tree a b (searches-choices plain_tree a words p) (searches-choices plain_tree b words q)

pub search-flag : (words : List (List ℕ)) (m n : Bool) (a b : Settings) → AreSearchOptions m a words → AreSearchOptions n b words
    → m ≡ n
search-flag words m n a b p q = choices-flag words m n a b (searches-choices m a words p) (searches-choices n b words q)
