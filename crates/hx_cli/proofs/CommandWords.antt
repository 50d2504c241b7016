-- Words are one command at most. The first word is the command's name, and no two names have the same first two
-- letters; the words behind it tell its seed, its size and its settings.
use Rattle.std.proofs.Common.{◌≡◌, ◌∙◌, ◌≢◌, ℕ, ◌+◌, ◌*◌, List, [], ◌∷◌, Bool, get_or, codes, refl, ap, arith}
use Rattle.hx_board.specs.Cells.{Extent}
use Rattle.hx_limits.specs.declared.settings.Settings.{Settings}
use Rattle.hx_cli.specs.declared.commands.Command.{Command}
use Rattle.hx_cli.specs.declared.commands.Command.TheVariants.{Check, Solve, Htp, Demo, Play, Template, Survey}
use Rattle.hx_cli.specs.Seeds.{SeedAndOptions}
use Rattle.hx_cli.specs.Sizes.{SizeAndOptions}
use Rattle.hx_cli.specs.Options.{AreOptions}
use Rattle.hx_cli.specs.Choices.{AreSearchOptions}
use Rattle.hx_cli.specs.Commands.{Asks}
use Rattle.hx_cli.proofs.OptionWords.{AreOptions-one, search-settings, search-flag}
use Rattle.hx_cli.proofs.SeedWords.{SeedAndOptions-seed, SeedAndOptions-settings}
use Rattle.hx_cli.proofs.SizeWords.{SizeAndOptions-size, SizeAndOptions-settings}

-- ---- a name, and the words behind it

abbrev name_of : Command → List ℕ
name_of Check = codes "check"
name_of (Solve settings plain_tree) = codes "solve"
name_of (Htp settings) = codes "htp"
name_of (Demo seed settings) = codes "demo"
name_of Play = codes "play"
name_of Template = codes "template"
name_of (Survey survey) = codes "survey"

-- what the words behind the name are
abbrev AreBehind : Command → List (List ℕ) → Type 0
AreBehind Check rest = rest ≡ []
AreBehind (Solve settings plain_tree) rest = AreSearchOptions plain_tree settings rest
AreBehind (Htp settings) rest = AreOptions rest settings
AreBehind (Demo seed settings) rest = SeedAndOptions seed settings rest
AreBehind Play rest = rest ≡ []
AreBehind Template rest = rest ≡ []
AreBehind (Survey survey) rest = SizeAndOptions survey.size survey.settings rest

-- the first two letters of a name, as one number
abbrev letters : List ℕ → ℕ
letters name = 256 * get_or name 0 0 + get_or name 1 0

-- the words are the name of the command, and what may be behind it
record IsNamed (command : Command) (words : List (List ℕ)) : Type 0 where
  rest : List (List ℕ)
  parts : words ≡ name_of command ∷ rest
  behind : AreBehind command rest

Asks-named : (words : List (List ℕ)) (command : Command) → Asks command words → IsNamed command words
Asks-named words Check asks = record { rest = []; parts = asks; behind = refl }
Asks-named words (Solve settings plain_tree) asks = record { rest = asks.0; parts = asks.1; behind = asks.2 }
Asks-named words (Htp settings) asks = record { rest = asks.0; parts = asks.1; behind = asks.2 }
Asks-named words (Demo seed settings) asks = record { rest = asks.0; parts = asks.1; behind = asks.2 }
Asks-named words Play asks = record { rest = []; parts = asks; behind = refl }
Asks-named words Template asks = record { rest = []; parts = asks; behind = refl }
Asks-named words (Survey survey) asks = record { rest = asks.0; parts = asks.1; behind = asks.2 }

-- the words behind the first one are what the command may have behind its name
Asks-behind : (words rest : List (List ℕ)) (name : List ℕ) (command : Command) → words ≡ name ∷ rest → Asks command words
    → AreBehind command rest
Asks-behind words rest name command is asks =
    let named = Asks-named words command asks in
    let same : named.rest ≡ rest = cc in
    rw same at named.behind

-- words that begin with a name are no command whose name begins with other letters
other_name : (words rest : List (List ℕ)) (name : List ℕ) (command : Command) → letters name ≢ letters (name_of command)
    → words ≡ name ∷ rest → Asks command words → ⊥
other_name words rest name command differ is asks =
    let named = Asks-named words command asks in
    let same : name ≡ name_of command = cc in
    differ (ap letters same)

-- ---- what is no command: a name, and words behind it that are not what they must be

pub Asks-solve : (words rest : List (List ℕ)) → words ≡ codes "solve" ∷ rest
    → ((found : Settings × Bool) → AreSearchOptions found.1 found.0 rest → ⊥) → (command : Command) → Asks command words → ⊥
Asks-solve words rest is none (Solve settings plain_tree) asks =
    none (settings, plain_tree) (Asks-behind words rest (codes "solve") (Solve settings plain_tree) is asks)
Asks-solve words rest is none other asks = other_name words rest (codes "solve") other (omega arith) is asks

pub Asks-htp : (words rest : List (List ℕ)) → words ≡ codes "htp" ∷ rest
    → ((settings : Settings) → AreOptions rest settings → ⊥) → (command : Command) → Asks command words → ⊥
Asks-htp words rest is none (Htp settings) asks = none settings (Asks-behind words rest (codes "htp") (Htp settings) is asks)
Asks-htp words rest is none other asks = other_name words rest (codes "htp") other (omega arith) is asks

pub Asks-demo : (words rest : List (List ℕ)) → words ≡ codes "demo" ∷ rest
    → ((found : ℕ × Settings) → SeedAndOptions found.0 found.1 rest → ⊥) → (command : Command) → Asks command words → ⊥
Asks-demo words rest is none (Demo seed settings) asks =
    none (seed, settings) (Asks-behind words rest (codes "demo") (Demo seed settings) is asks)
Asks-demo words rest is none other asks = other_name words rest (codes "demo") other (omega arith) is asks

pub Asks-survey : (words rest : List (List ℕ)) → words ≡ codes "survey" ∷ rest
    → ((found : Extent × Settings) → SizeAndOptions found.0 found.1 rest → ⊥) → (command : Command) → Asks command words → ⊥
Asks-survey words rest is none (Survey survey) asks =
    none (survey.size, survey.settings) (Asks-behind words rest (codes "survey") (Survey survey) is asks)
Asks-survey words rest is none other asks = other_name words rest (codes "survey") other (omega arith) is asks

-- ---- one command

-- the same name and the same words behind it are the same command
one_behind : (rest : List (List ℕ)) (a b : Command) → name_of a ≡ name_of b → AreBehind a rest → AreBehind b rest → a ≡ b
one_behind rest Check Check same p q = refl
one_behind rest (Solve a m) (Solve b n) same p q =
    let flags : m ≡ n = search-flag rest m n a b p q in
    let settings : a ≡ b = search-settings rest n a b (rw flags at p) q in
    cc
one_behind rest (Htp a) (Htp b) same p q = ap Htp (AreOptions-one rest a b p q)
one_behind rest (Demo m a) (Demo n b) same p q =
    let seeds : m ≡ n = SeedAndOptions-seed rest m n a b p q in
    let settings : a ≡ b = SeedAndOptions-settings rest m n a b p q in
    cc
one_behind rest Play Play same p q = refl
one_behind rest Template Template same p q = refl
one_behind rest (Survey a) (Survey b) same p q =
    let sizes : a.size ≡ b.size = SizeAndOptions-size rest a.size b.size a.settings b.settings p q in
    let settings : a.settings ≡ b.settings = SizeAndOptions-settings rest a.size b.size a.settings b.settings p q in
    ap (λ (size : Extent). Survey (record { size = size; settings = a.settings })) sizes
    ∙ ap (λ (chosen : Settings). Survey (record { size = b.size; settings = chosen })) settings
one_behind rest a b same p q =
    let differ : letters (name_of a) ≢ letters (name_of b) = omega arith in
    absurd (differ (ap letters same))

pub Asks-one : (words : List (List ℕ)) (a b : Command) → Asks a words → Asks b words → a ≡ b
Asks-one words a b p q =
    let named = Asks-named words a p in
    let other = Asks-named words b q in
    let same : name_of a ≡ name_of b = cc in
    one_behind named.rest a b same named.behind (Asks-behind words named.rest (name_of a) b named.parts q)
