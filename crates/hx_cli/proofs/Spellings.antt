-- Words begin with one option at most. Where the first word is a name, the option is that name and the value after it;
-- otherwise it is the first word alone.
use Rattle.std.proofs.Common.{◌≡◌, ℕ, List, [], ◌∷◌, ◌++◌, refl, sym, ap, ◌∙◌, subst}
use Rattle.hx_lex.specs.Marks.{IsCut}
use Rattle.hx_lex.proofs.Cuts.{cut_same}
use Rattle.hx_cli.specs.declared.settings.Setting.{Setting}
use Rattle.hx_cli.specs.declared.options.Choice.{Choice}
use Rattle.hx_cli.specs.Settings.{name_of}
use Rattle.hx_cli.specs.Options.{IsValue}
use Rattle.hx_cli.specs.Choices.{IsJoined, Spelled, Apart, Joined, HasNoOption, plain_tree_flag}
use Rattle.hx_cli.proofs.Names.{name_of-injective, Lacks-name_of, name_alone, joined_name, joined_value}
use Rattle.hx_cli.proofs.Names.{flag_is_no_name, flag_is_not_joined}

pub IsValue-one : (value : List ℕ) (m n : ℕ) → IsValue value m → IsValue value n → m ≡ n
IsValue-one value m n a b = a.same ∙ sym b.same

-- the same value of the same setting
same_choice : (a b : Choice) (x y : List ℕ) → a.setting ≡ b.setting → IsValue x a.number → IsValue y b.number → x ≡ y
    → a ≡ b
same_choice a b x y settings p q values =
    let P : List ℕ → Type 0 = λ value. IsValue value b.number in
    let numbers : a.number ≡ b.number = IsValue-one x a.number b.number p (subst P (sym values) q) in
    let with_setting : Setting → Choice = λ setting. record { setting = setting; number = a.number } in
    let with_number : ℕ → Choice = λ number. record { setting = b.setting; number = number } in
    ap with_setting settings ∙ ap with_number numbers

pub IsJoined-one : (word : List ℕ) (a b : Choice) → IsJoined a word → IsJoined b word → a ≡ b
IsJoined-one word a b p q =
    let parts : name_of a.setting ++ 61 ∷ p.value ≡ name_of b.setting ++ 61 ∷ q.value = sym p.parts ∙ q.parts in
    same_choice a b p.value q.value (joined_name a.setting b.setting p.value q.value parts) p.is_value q.is_value
    (joined_value a.setting b.setting p.value q.value parts)

-- a word with an equals sign after the name is no name
pub IsJoined-no_name : (choice : Choice) (word : List ℕ) (setting : Setting) → IsJoined choice word
    → word ≡ name_of setting → ⊥
IsJoined-no_name choice word setting joined is = name_alone setting choice.setting joined.value (sym is ∙ joined.parts)

-- a word that is cut at its equals sign, before which no name stands
pub IsJoined-cut_name : (word name value : List ℕ) → IsCut 61 word name value
    → ((setting : Setting) → name ≡ name_of setting → ⊥) → (choice : Choice) → IsJoined choice word → ⊥
IsJoined-cut_name word name value cut unnamed choice joined =
    let parts : name ++ 61 ∷ value ≡ name_of choice.setting ++ 61 ∷ joined.value = sym cut.1 ∙ joined.parts in
    unnamed choice.setting
    (cut_same 61 name (name_of choice.setting) value joined.value cut.0 (Lacks-name_of choice.setting) parts)

-- the option after a name is the value of that setting
pub record IsNamed (setting : Setting) (words : List (List ℕ)) (choice : Choice) (rest : List (List ℕ)) : Type 0 where
  pub value : List ℕ
  pub is_value : IsValue value choice.number
  pub same : choice.setting ≡ setting
  pub parts : words ≡ value ∷ rest

pub Spelled-named : (setting : Setting) (word : List ℕ) (words : List (List ℕ)) (choice : Choice) (rest : List (List ℕ))
    → word ≡ name_of setting → Spelled choice (word ∷ words) rest → IsNamed setting words choice rest
Spelled-named setting word words choice rest is (Apart value is_value parts) =
    let names : name_of choice.setting ≡ name_of setting = cc in
    record { value = value; is_value = is_value; same = name_of-injective choice.setting setting names; parts = cc }
Spelled-named setting word words choice rest is (Joined other joined parts) =
    let same : other ≡ name_of setting = cc in
    absurd (IsJoined-no_name choice other setting joined same)

-- an option whose first word is no name is that word
pub record IsWord (word : List ℕ) (words : List (List ℕ)) (choice : Choice) (rest : List (List ℕ)) : Type 0 where
  pub joined : IsJoined choice word
  pub same : words ≡ rest

pub Spelled-unnamed : (word : List ℕ) (words : List (List ℕ)) (choice : Choice) (rest : List (List ℕ))
    → ((setting : Setting) → word ≡ name_of setting → ⊥) → Spelled choice (word ∷ words) rest
    → IsWord word words choice rest
Spelled-unnamed word words choice rest unnamed (Apart value is_value parts) =
    let name : word ≡ name_of choice.setting = cc in
    absurd (unnamed choice.setting name)
Spelled-unnamed word words choice rest unnamed (Joined other joined parts) =
    let P : List ℕ → Type 0 = λ w. IsJoined choice w in
    let same : other ≡ word = cc in
    record { joined = subst P same joined; same = cc }

-- no option is at the front where the first word is neither a name nor an option
pub Spelled-no_option : (words : List (List ℕ)) (word : List ℕ) (more : List (List ℕ)) → words ≡ word ∷ more
    → ((setting : Setting) → word ≡ name_of setting → ⊥) → ((choice : Choice) → IsJoined choice word → ⊥)
    → HasNoOption words
Spelled-no_option words word more parts unnamed unjoined choice rest spelled =
    let P : List (List ℕ) → Type 0 = λ ws. Spelled choice ws rest in
    unjoined choice (Spelled-unnamed word more choice rest unnamed (subst P parts spelled)).joined

-- nor where it is the flag
pub flag-no_option : (behind : List (List ℕ)) → HasNoOption (plain_tree_flag ∷ behind)
flag-no_option behind =
    Spelled-no_option (plain_tree_flag ∷ behind) plain_tree_flag behind refl flag_is_no_name
    (λ choice joined. flag_is_not_joined choice.setting joined.value joined.parts)

pub Spelled-some : (choice : Choice) (words rest : List (List ℕ)) → words ≡ [] → Spelled choice words rest → ⊥
Spelled-some choice words rest none (Apart value is_value parts) = cc
Spelled-some choice words rest none (Joined word joined parts) = cc

-- the same option, and the same words after it
pub record AreSame (a b : Choice) (x y : List (List ℕ)) : Type 0 where
  pub choices : a ≡ b
  pub rests : x ≡ y

pub Spelled-one : (words : List (List ℕ)) (a b : Choice) (x y : List (List ℕ)) → Spelled a words x → Spelled b words y
    → AreSame a b x y
Spelled-one words a b x y (Apart value is_value parts) other =
    let P : List (List ℕ) → Type 0 = λ ws. Spelled b ws y in
    let named = Spelled-named a.setting (name_of a.setting) (value ∷ x) b y refl (subst P parts other) in
    let values : value ≡ named.value = cc in
    record { choices = same_choice a b value named.value (sym named.same) is_value named.is_value values; rests = cc }
Spelled-one words a b x y (Joined word joined parts) other =
    let P : List (List ℕ) → Type 0 = λ ws. Spelled b ws y in
    let unnamed = λ (setting : Setting) (is : word ≡ name_of setting). IsJoined-no_name a word setting joined is in
    let found = Spelled-unnamed word x b y unnamed (subst P parts other) in
    record { choices = IsJoined-one word a b joined found.joined; rests = found.same }
