-- How a seed is spelled, before options.
use Rattle.std.specs.Prelude.{◌≡◌, ℕ, ◌<◌, ◌≤◌, ◌^◌, List, ◌∷◌, length}
use Rattle.std.specs.Str.Parse.{IsNumeral, digits_value}
use Rattle.hx_limits.specs.declared.settings.Settings.{Settings}
use Rattle.hx_cli.specs.Options.{AreOptions}

-- one decimal digit or more, at most 20, which are this number, and it is below 2^64
pub record IsSeed (word : List ℕ) (seed : ℕ) : Type 0 where
  pub numeral : IsNumeral 10 word
  pub short : length word ≤ 20
  pub small : seed < 2 ^ 64
  pub same : seed ≡ digits_value 10 word

-- the words are a seed and then options that choose the settings
pub record SeedAndOptions (seed : ℕ) (settings : Settings) (words : List (List ℕ)) : Type 0 where
  pub word : List ℕ
  pub options : List (List ℕ)
  pub parts : words ≡ word ∷ options
  pub is_seed : IsSeed word seed
  pub are_options : AreOptions options settings
