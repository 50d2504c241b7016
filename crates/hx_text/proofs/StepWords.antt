-- The lines of steps and of threats. Their words are of high bytes, so each line gives back the words that it was
-- spelled from.
use Rattle.std.proofs.Common.{◌≡◌, ℕ, ◌≤◌, List, [], ◌∷◌, map, get_or, refl, sym, ap, ◌∙◌, arith}
use Rattle.std.specs.Prelude.{codes, All}
use Rattle.std.proofs.lemmas.List.Elements.{All-head, All-tail}
use Rattle.std.specs.Fmt.{decimal}
use Rattle.hx_board.specs.declared.vertices.Vertex.{Vertex}
use Rattle.hx_board.specs.declared.vertices.Vertex.TheVariants.{Of, First, Last}
use Rattle.hx_board.specs.Cells.{Extent, IsExtent}
use Rattle.hx_board.specs.Graph.{IsVertex}
use Rattle.hx_link.specs.declared.steps.Step.{Step}
use Rattle.hx_link.specs.declared.steps.Step.TheVariants.{Base, AndStone, AndCell, Or}
use Rattle.hx_lex.specs.Words.{words_in, IsNumber, vertex_word}
use Rattle.hx_text.specs.StepTexts.{step_words, step_line, threat_words, threat_line, StepFits}
use Rattle.hx_lex.proofs.Spacing.{IsLine, words_in-spaced}
use Rattle.hx_lex.proofs.HighBytes.{IsHigh, AllHigh, is_high, IsHigh-test, IsHigh-decimal, IsHigh-cell_word, IsLine-high}

-- ---- steps

-- the first letter of a line's words, which tells the four steps apart
abbrev pub first_letter : List (List ℕ) → ℕ
first_letter words = get_or (get_or words 0 []) 0 0

pub letters_same : {words a b : List (List ℕ)} → words ≡ a → words ≡ b → first_letter a ≡ first_letter b
letters_same {words} {a} {b} e f = ap first_letter (sym e ∙ f)

pub IsHigh-vertex_word : (size : Extent) (vertex : Vertex) → size.rows ≤ 11 → IsVertex size vertex → IsHigh (vertex_word vertex)
unfolding is_high
IsHigh-vertex_word size (Of cell) few on = IsHigh-cell_word cell (omega (arith, on.row))
IsHigh-vertex_word size First few on = IsHigh-test (codes "first") refl
IsHigh-vertex_word size Last few on = IsHigh-test (codes "last") refl

AllHigh-decimals : (numbers : List ℕ) → All IsNumber numbers → AllHigh (map decimal numbers)
AllHigh-decimals [] small = tt
AllHigh-decimals (n ∷ numbers) small =
    (IsHigh-decimal n (All-head IsNumber n numbers small), AllHigh-decimals numbers (All-tail IsNumber n numbers small))

pub AllHigh-step_words : (size : Extent) (step : Step) → size.rows ≤ 11 → StepFits size step → AllHigh (step_words step)
unfolding is_high
AllHigh-step_words size (Base a b) few fits =
    (IsHigh-test (codes "base") refl, (IsHigh-vertex_word size a few fits.0, (IsHigh-vertex_word size b few fits.1, tt)))
AllHigh-step_words size (AndStone left right) few fits =
    (IsHigh-test (codes "stone") refl, (IsHigh-decimal left fits.0, (IsHigh-decimal right fits.1, tt)))
AllHigh-step_words size (AndCell left right) few fits =
    (IsHigh-test (codes "cell") refl, (IsHigh-decimal left fits.0, (IsHigh-decimal right fits.1, tt)))
AllHigh-step_words size (Or parts) few fits = (IsHigh-test (codes "or") refl, AllHigh-decimals parts fits.1)

pub IsLine-step_words : (size : Extent) (step : Step) → size.rows ≤ 11 → StepFits size step → IsLine (step_words step)
IsLine-step_words size (Base a b) few fits =
    IsLine-high (codes "base") (vertex_word a ∷ vertex_word b ∷ []) (AllHigh-step_words size (Base a b) few fits)
IsLine-step_words size (AndStone left right) few fits =
    IsLine-high (codes "stone") (decimal left ∷ decimal right ∷ []) (AllHigh-step_words size (AndStone left right) few fits)
IsLine-step_words size (AndCell left right) few fits =
    IsLine-high (codes "cell") (decimal left ∷ decimal right ∷ []) (AllHigh-step_words size (AndCell left right) few fits)
IsLine-step_words size (Or parts) few fits = IsLine-high (codes "or") (map decimal parts) (AllHigh-step_words size (Or parts) few fits)

pub words_in-step_line : (size : Extent) (line : List ℕ) (step : Step) → IsExtent size.rows size.cols → StepFits size step
    → line ≡ step_line step → words_in line ≡ step_words step
words_in-step_line size line step extent fits e = ap words_in e
    ∙ words_in-spaced (step_words step) (IsLine-step_words size step extent.1 fits)

-- ---- threats

pub AllHigh-threat_words : (place : ℕ) → IsNumber place → AllHigh (threat_words place)
unfolding is_high
AllHigh-threat_words place small = (IsHigh-test (codes "threat") refl, (IsHigh-decimal place small, tt))

pub words_in-threat_line : (line : List ℕ) (place : ℕ) → IsNumber place → line ≡ threat_line place → words_in line ≡ threat_words place
words_in-threat_line line place small e =
    ap words_in e
    ∙ words_in-spaced (threat_words place) (IsLine-high (codes "threat") (decimal place ∷ []) (AllHigh-threat_words place small))
