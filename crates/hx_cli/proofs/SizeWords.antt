-- Words tell one size and one choice of settings: the first two are the rows and the columns, and the others are the
-- options.
use Rattle.std.proofs.Common.{◌≡◌, ℕ, List, ◌∷◌, ap, ◌∙◌}
use Rattle.hx_board.specs.Cells.{Extent}
use Rattle.hx_limits.specs.declared.settings.Settings.{Settings}
use Rattle.hx_limits.specs.Settings.{AreSettings}
use Rattle.hx_cli.specs.Options.{AreOptions}
use Rattle.hx_cli.specs.Sizes.{IsSizeSpelled, SizeAndOptions}
use Rattle.hx_cli.proofs.Spellings.{IsValue-one}
use Rattle.hx_cli.proofs.OptionWords.{AreOptions-one, AreOptions-settings}

pub IsSizeSpelled-one : (rows cols : List ℕ) (a b : Extent) → IsSizeSpelled a rows cols → IsSizeSpelled b rows cols → a ≡ b
IsSizeSpelled-one rows cols a b p q =
    let with_rows : ℕ → Extent = λ number. record { rows = number; cols = a.cols } in
    let with_cols : ℕ → Extent = λ number. record { rows = b.rows; cols = number } in
    ap with_rows (IsValue-one rows a.rows b.rows p.is_rows q.is_rows) ∙ ap with_cols (IsValue-one cols a.cols b.cols p.is_cols q.is_cols)

pub SizeAndOptions-size : (words : List (List ℕ)) (m n : Extent) (a b : Settings) → SizeAndOptions m a words → SizeAndOptions n b words
    → m ≡ n
SizeAndOptions-size words m n a b p q =
    let same_rows : q.rows ≡ p.rows = cc in
    let same_cols : q.cols ≡ p.cols = cc in
    IsSizeSpelled-one p.rows p.cols m n p.spelled (rw same_cols at (rw same_rows at q.spelled))

pub SizeAndOptions-settings : (words : List (List ℕ)) (m n : Extent) (a b : Settings) → SizeAndOptions m a words
    → SizeAndOptions n b words → a ≡ b
SizeAndOptions-settings words m n a b p q =
    let same : q.options ≡ p.options = cc in
    AreOptions-one p.options a b p.are_options (rw same at q.are_options)

-- the settings stay within the limits of a search
pub SizeAndOptions-limits : (words : List (List ℕ)) (size : Extent) (settings : Settings) → SizeAndOptions size settings words
    → AreSettings settings
SizeAndOptions-limits words size settings is = AreOptions-settings is.options settings is.are_options

-- words are no size and options where the first two spell no size
pub SizeAndOptions-no_size : (words : List (List ℕ)) (rows cols : List ℕ) (rest : List (List ℕ)) → words ≡ rows ∷ cols ∷ rest
    → ((size : Extent) → IsSizeSpelled size rows cols → ⊥) → (found : Extent × Settings) → SizeAndOptions found.0 found.1 words → ⊥
SizeAndOptions-no_size words rows cols rest parts none found is =
    let same_rows : is.rows ≡ rows = cc in
    let same_cols : is.cols ≡ cols = cc in
    none found.0 (rw same_cols at (rw same_rows at is.spelled))

-- nor where those after the first two are no options
pub SizeAndOptions-no_options : (words : List (List ℕ)) (rows cols : List ℕ) (rest : List (List ℕ)) → words ≡ rows ∷ cols ∷ rest
    → ((settings : Settings) → AreOptions rest settings → ⊥) → (found : Extent × Settings) → SizeAndOptions found.0 found.1 words → ⊥
SizeAndOptions-no_options words rows cols rest parts none found is =
    let same : is.options ≡ rest = cc in
    none found.1 (rw same at is.are_options)
