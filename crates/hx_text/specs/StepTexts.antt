-- The lines of a node's steps and of its threats.
use Rattle.std.specs.Prelude.{ℕ, ◌≤◌, List, [], ◌∷◌, length, map, codes, All}
use Rattle.std.specs.Fmt.{decimal}
use Rattle.hx_board.specs.Cells.{Extent}
use Rattle.hx_board.specs.Graph.{IsVertex}
use Rattle.hx_link.specs.declared.steps.Step.{Step}
use Rattle.hx_link.specs.declared.steps.Step.TheVariants.{Base, AndStone, AndCell, Or}
use Rattle.hx_link.specs.declared.parts.TheConstants.{MOST_PARTS}
use Rattle.hx_lex.specs.Words.{spaced, vertex_word, IsNumber}

abbrev pub step_words : Step → List (List ℕ)
step_words (Base a b) = codes "base" ∷ vertex_word a ∷ vertex_word b ∷ []
step_words (AndStone left right) = codes "stone" ∷ decimal left ∷ decimal right ∷ []
step_words (AndCell left right) = codes "cell" ∷ decimal left ∷ decimal right ∷ []
step_words (Or parts) = codes "or" ∷ map decimal parts

-- the line of a step
abbrev pub step_line : Step → List ℕ
step_line step = spaced (step_words step)

abbrev pub threat_words : ℕ → List (List ℕ)
threat_words place = codes "threat" ∷ decimal place ∷ []

-- the line of a threat
abbrev pub threat_line : ℕ → List ℕ
threat_line place = spaced (threat_words place)

-- a step whose vertices are on a board of this size, with no more parts than a text may have; the links that it names
-- need not be there
abbrev pub StepFits : Extent → Step → Type 0
StepFits size (Base a b) = IsVertex size a × IsVertex size b
StepFits size (AndStone left right) = IsNumber left × IsNumber right
StepFits size (AndCell left right) = IsNumber left × IsNumber right
StepFits size (Or parts) = (length parts ≤ MOST_PARTS) × All IsNumber parts

-- ---- words for the functions inside the crate alone

-- a step that is no Or
abbrev pub IsShortStep : Step → Type 0
IsShortStep (Base a b) = Unit {0}
IsShortStep (AndStone left right) = Unit {0}
IsShortStep (AndCell left right) = Unit {0}
IsShortStep (Or parts) = ⊥
