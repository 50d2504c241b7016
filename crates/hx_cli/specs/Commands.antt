-- The commands of the program.
use Rattle.std.specs.Prelude.{◌≡◌, ℕ, List, [], ◌∷◌, codes, Bool, true}
use Rattle.hx_board.specs.Cells.{Extent}
use Rattle.hx_limits.specs.declared.settings.Settings.{Settings}
use Rattle.hx_limits.specs.Settings.{AreSettings, defaults}
use Rattle.hx_cli.specs.declared.commands.Command.{Command}
use Rattle.hx_cli.specs.declared.commands.Command.TheVariants.{Check, Solve, Htp, Demo, Play, Template, Survey}
use Rattle.hx_cli.specs.Options.{Choose, AreOptions}
use Rattle.hx_cli.specs.Seeds.{SeedAndOptions}
use Rattle.hx_cli.specs.Sizes.{SizeAndOptions}

-- the words are this name and then options that choose the settings
abbrev pub NameAndOptions : List ℕ → Settings → List (List ℕ) → Type 0
NameAndOptions name settings words =
    (options : List (List ℕ)) × (words ≡ name ∷ options) × AreOptions options settings

-- the words are `solve` and then options, with the flag and for one worker where the tree is to be plain
abbrev pub IsSolve : Settings → Bool → List (List ℕ) → Type 0
IsSolve settings plain_tree words =
    (options : List (List ℕ)) × (words ≡ codes "solve" ∷ options)
    × (Choose settings plain_tree [] defaults options × (plain_tree ≡ true → settings.workers ≡ 1))

-- the words are `demo`, a seed and then options
abbrev pub IsDemo : ℕ → Settings → List (List ℕ) → Type 0
IsDemo seed settings words = (rest : List (List ℕ)) × (words ≡ codes "demo" ∷ rest) × SeedAndOptions seed settings rest

-- the words are `survey`, the size of a board and then options
abbrev pub IsSurvey : Extent → Settings → List (List ℕ) → Type 0
IsSurvey size settings words = (rest : List (List ℕ)) × (words ≡ codes "survey" ∷ rest) × SizeAndOptions size settings rest

-- the words are this command
abbrev pub Asks : Command → List (List ℕ) → Type 0
Asks Check words = words ≡ codes "check" ∷ []
Asks (Solve settings plain_tree) words = IsSolve settings plain_tree words
Asks (Htp settings) words = NameAndOptions (codes "htp") settings words
Asks (Demo seed settings) words = IsDemo seed settings words
Asks Play words = words ≡ codes "play" ∷ []
Asks Template words = words ≡ codes "template" ∷ []
Asks (Survey survey) words = IsSurvey survey.size survey.settings words

-- the settings of the command, if it has any, are those that a search may have
abbrev pub IsWithinLimits : Command → Type 0
IsWithinLimits Check = Unit {0}
IsWithinLimits (Solve settings plain_tree) = AreSettings settings
IsWithinLimits (Htp settings) = AreSettings settings
IsWithinLimits (Demo seed settings) = AreSettings settings
IsWithinLimits Play = Unit {0}
IsWithinLimits Template = Unit {0}
IsWithinLimits (Survey survey) = AreSettings survey.settings
