-- Which cell a line names: its words are the one word of the cell, and no two cells of a board have the same word.
use Rattle.std.proofs.Common.{◌≡◌, ℕ, ◌≤◌, List, [], ◌∷◌, sym, ap, ◌∙◌, subst, arith, None}
use Rattle.hx_board.specs.Cells.{Extent, OnBoard}
use Rattle.hx_board.specs.Positions.{Board, IsEmpty}
use Rattle.hx_lex.specs.Words.{cell_word, words_in, spaced, Takes}
use Rattle.hx_lex.proofs.Splits.{split_at_marks-lacks}
use Rattle.hx_lex.proofs.Spacing.{spaced-words_in}
use Rattle.hx_lex.proofs.HighBytes.{IsHigh-cell_word, Lacks-high}
use Rattle.hx_lex.proofs.Injective.{cell_injective}
use Rattle.hx_play.specs.GameTexts.{NamesEmpty}

-- the word of a cell is a line of one word
one_word : (size : Extent) (cell : ℕ) → size.rows ≤ 11 → OnBoard size cell → words_in (cell_word cell) ≡ cell_word cell ∷ []
one_word size cell few on = split_at_marks-lacks 32 (cell_word cell)
    (Lacks-high 32 (cell_word cell) (omega arith) (IsHigh-cell_word cell (omega (arith, few, on.row))))

module _ (board : Board) (line : List ℕ) (few : board.size.rows ≤ 11) where
  -- the words of a line that names an empty cell
  names_words : (cell : ℕ) → NamesEmpty board line cell → words_in line ≡ cell_word cell ∷ []
  names_words cell names = ap words_in names.spelled ∙ one_word board.size cell few names.empty.on_board

  pub no_cell : (rest : List (List ℕ)) → Takes cell_word (OnBoard board.size) (words_in line) None rest → (cell : ℕ)
      → NamesEmpty board line cell → ⊥
  no_cell rest none cell names = none cell [] names.empty.on_board (names_words cell names)

  pub no_more_words : (first : ℕ) (rest : List (List ℕ)) → words_in line ≡ cell_word first ∷ rest → (rest ≡ [] → ⊥) → (cell : ℕ)
      → NamesEmpty board line cell → ⊥
  no_more_words first rest words more cell names =
      let same : cell_word cell ∷ [] ≡ cell_word first ∷ rest = sym (names_words cell names) ∙ words in more cc

  pub names_cell : (cell : ℕ) (rest : List (List ℕ)) → words_in line ≡ cell_word cell ∷ rest → rest ≡ [] → IsEmpty board cell
      → NamesEmpty board line cell
  unfolding spaced
  names_cell cell rest words none empty =
      let spelled : line ≡ spaced (words_in line) = sym (spaced-words_in line) in
      record { empty = empty; spelled = rw (words, none) at spelled }

  pub other_cell : (first : ℕ) (rest : List (List ℕ)) → words_in line ≡ cell_word first ∷ rest → OnBoard board.size first
      → (IsEmpty board first → ⊥) → (cell : ℕ) → NamesEmpty board line cell → ⊥
  other_cell first rest words on full cell names =
      let same : cell_word cell ∷ [] ≡ cell_word first ∷ rest = sym (names_words cell names) ∙ words in
      let is : cell ≡ first = cell_injective board.size cell first few names.empty.on_board on cc in
      full (subst (IsEmpty board) is names.empty)
