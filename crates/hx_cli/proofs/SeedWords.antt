-- Words tell one seed and one choice of settings: the first is the seed, and the others are the options.
use Rattle.std.proofs.Common.{◌≡◌, ℕ, List, ◌∷◌, sym, ◌∙◌}
use Rattle.hx_limits.specs.declared.settings.Settings.{Settings}
use Rattle.hx_limits.specs.Settings.{AreSettings}
use Rattle.hx_cli.specs.Options.{AreOptions}
use Rattle.hx_cli.specs.Seeds.{IsSeed, SeedAndOptions}
use Rattle.hx_cli.proofs.OptionWords.{AreOptions-one, AreOptions-settings}

pub IsSeed-one : (word : List ℕ) (m n : ℕ) → IsSeed word m → IsSeed word n → m ≡ n
IsSeed-one word m n a b = a.same ∙ sym b.same

pub SeedAndOptions-seed : (words : List (List ℕ)) (m n : ℕ) (a b : Settings) → SeedAndOptions m a words → SeedAndOptions n b words → m ≡ n
SeedAndOptions-seed words m n a b p q =
    let same : q.word ≡ p.word = cc in
    IsSeed-one p.word m n p.is_seed (rw same at q.is_seed)

pub SeedAndOptions-settings : (words : List (List ℕ)) (m n : ℕ) (a b : Settings) → SeedAndOptions m a words → SeedAndOptions n b words
    → a ≡ b
SeedAndOptions-settings words m n a b p q =
    let same : q.options ≡ p.options = cc in
    AreOptions-one p.options a b p.are_options (rw same at q.are_options)

-- the settings stay within the limits of a search
pub SeedAndOptions-limits : (words : List (List ℕ)) (seed : ℕ) (settings : Settings) → SeedAndOptions seed settings words
    → AreSettings settings
SeedAndOptions-limits words seed settings is = AreOptions-settings is.options settings is.are_options

-- words are no seed and options where those after the first are no options
pub SeedAndOptions-no_options : (words : List (List ℕ)) (word : List ℕ) (rest : List (List ℕ)) → words ≡ word ∷ rest
    → ((settings : Settings) → AreOptions rest settings → ⊥) → (found : ℕ × Settings) → SeedAndOptions found.0 found.1 words → ⊥
SeedAndOptions-no_options words word rest parts none found is =
    let same : is.options ≡ rest = cc in
    none found.1 (rw same at is.are_options)
