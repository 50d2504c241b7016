-- How answers are spelled.
use Rattle.std.specs.Prelude.{◌≡◌, ℕ, zero, suc, ◌+◌, Bool, true, false, List, [], ◌∷◌, ◌++◌, map, codes, replicate}
use Rattle.std.specs.declared.option.Option.{Option}
use Rattle.std.specs.declared.option.Option.TheVariants.{None, Some}
use Rattle.std.specs.declared.result.Result.TheVariants.{Ok, Err}
use Rattle.std.specs.Fmt.{decimal}
use Rattle.std.specs.List.{join_with_byte}
use Rattle.hx_board.specs.declared.colours.Colour.{Colour}
use Rattle.hx_board.specs.declared.colours.Colour.TheVariants.{Black, White}
use Rattle.hx_board.specs.Cells.{index_of}
use Rattle.hx_board.specs.Positions.{Board, stone_at}
use Rattle.hx_lex.specs.Words.{colour_word, cell_word}
use Rattle.hx_htp.specs.declared.answers.Refusal.{Refusal}
use Rattle.hx_htp.specs.declared.answers.Refusal.TheVariants.{UnknownCommand, SyntaxError, UnacceptableSize}
use Rattle.hx_htp.specs.declared.answers.Refusal.TheVariants.{IllegalMove, CannotUndo, NoEmptyCell, OutOfMemory}
use Rattle.hx_htp.specs.declared.answers.Answer.{Answer}
use Rattle.hx_htp.specs.declared.answers.Answer.TheVariants.{Empty, Protocol, Program, Release, Known, Names, Cell}
use Rattle.hx_htp.specs.declared.answers.Answer.TheVariants.{Shown, Winner, UnknownBudget, UnknownProofs}
use Rattle.hx_htp.specs.Commands.{name_word, names}
use Rattle.hx_htp.specs.Answers.{Given}

abbrev pub known_word : Bool → List ℕ
known_word true = codes "true"
known_word false = codes "false"

-- `.` for an empty cell, and else `b` or `w` for the stone
abbrev pub stone_byte : Option Colour → ℕ
stone_byte None = 46
stone_byte (Some Black) = 98
stone_byte (Some White) = 119

-- what each number below a bound gives, one after the other
unfoldable pub each_below : ℕ → (ℕ → List ℕ) → List ℕ
each_below zero spelled = []
each_below (suc n) spelled = each_below n spelled ++ spelled n

-- a space, and the letter of each column after a space
abbrev pub columns_line : ℕ → List ℕ
columns_line cols = 32 ∷ each_below cols (λ col. 32 ∷ (97 + col) ∷ [])

-- as many spaces as there are rows above, the row's number counted from 1, and each cell after a space
abbrev pub row_line : Board → ℕ → List ℕ
row_line board row =
    (replicate row 32 ++ decimal (row + 1))
    ++ each_below board.size.cols (λ col. 32 ∷ stone_byte (stone_at board (index_of row col)) ∷ [])

-- the text of a board
abbrev pub board_text : Board → List ℕ
board_text board = columns_line board.size.cols ++ each_below board.size.rows (λ row. 10 ∷ row_line board row)

-- all names, one a line
abbrev pub names_text : List ℕ
names_text = join_with_byte 10 (map name_word names)

abbrev pub answer_text : Answer → List ℕ
answer_text Empty = []
answer_text Protocol = codes "2"
answer_text Program = codes "hx"
answer_text Release = codes "1"
answer_text (Known known) = known_word known
answer_text Names = names_text
answer_text (Cell cell) = cell_word cell
answer_text (Shown board) = board_text board
answer_text (Winner player) = colour_word player
answer_text (UnknownBudget n) = codes "unknown budget " ++ decimal n
answer_text (UnknownProofs n) = codes "unknown proofs " ++ decimal n

abbrev pub refusal_text : Refusal → List ℕ
refusal_text UnknownCommand = codes "unknown command"
refusal_text SyntaxError = codes "syntax error"
refusal_text UnacceptableSize = codes "unacceptable size"
refusal_text IllegalMove = codes "illegal move"
refusal_text CannotUndo = codes "cannot undo"
refusal_text NoEmptyCell = codes "no empty cell"
refusal_text OutOfMemory = codes "out of memory"

-- a mark, the line's number if it has one, a space, the text and two LF
abbrev pub marked : List ℕ → List ℕ → List ℕ → List ℕ
marked mark number text = mark ++ number ++ codes " " ++ text ++ codes "\n\n"

abbrev pub reply_text : List ℕ → Given → List ℕ
reply_text number (Ok answer) = marked (codes "=") number (answer_text answer)
reply_text number (Err refusal) = marked (codes "?") number (refusal_text refusal)

-- a reply that refuses: it begins with `?`
abbrev pub IsRefused : List ℕ → Type 0
IsRefused [] = ⊥
IsRefused (byte ∷ bytes) = byte ≡ 63
