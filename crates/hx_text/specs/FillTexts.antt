-- The lines of a node's fill steps.
use Rattle.std.specs.Prelude.{ℕ, List, [], ◌∷◌, codes}
use Rattle.hx_board.specs.Cells.{Extent, OnBoard}
use Rattle.hx_inferior.specs.declared.fills.FillStep.{FillStep}
use Rattle.hx_inferior.specs.declared.fills.FillStep.TheVariants.{Other, Dead, Pair}
use Rattle.hx_lex.specs.Words.{spaced, cell_word}

abbrev pub fill_words : FillStep → List (List ℕ)
fill_words (Other cell) = codes "other" ∷ cell_word cell ∷ []
fill_words (Dead cell) = codes "dead" ∷ cell_word cell ∷ []
fill_words (Pair a b) = codes "pair" ∷ cell_word a ∷ cell_word b ∷ []

-- the line of a fill step
abbrev pub fill_line : FillStep → List ℕ
fill_line fill = spaced (fill_words fill)

-- a fill step whose cells are on a board of this size; it need not be right
abbrev pub FillFits : Extent → FillStep → Type 0
FillFits size (Other cell) = OnBoard size cell
FillFits size (Dead cell) = OnBoard size cell
FillFits size (Pair a b) = OnBoard size a × OnBoard size b
