-- Reading a text line by line: what is still to be read, and what is said of the next line.
use Rattle.std.specs.Prelude.{◌≡◌, ℕ, ◌+◌, List, ◌++◌, length}
use Rattle.hx_lex.specs.Marks.{IsCut}
use Rattle.hx_text.specs.Grammars.{text_of}

-- the bytes that are still to be read, and the number of the line that begins there
pub record Unread : Type 0 where
  pub rest : List ℕ
  pub number : ℕ

-- the text goes on there behind these lines
pub record StandsBehind (text : List ℕ) (lines : List (List ℕ)) (unread : Unread) : Type 0 where
  pub parts : text ≡ text_of lines ++ unread.rest
  pub number : unread.number ≡ length lines + 1

-- the next line was taken, and is one of which this holds
pub record TakesLine (Holds : List ℕ → Type 0) (old new : Unread) : Type 0 where
  pub line : List ℕ
  pub cut : IsCut 10 old.rest line new.rest
  pub holds : Holds line
  pub counted : new.number ≡ old.number + 1

-- The next line has this number. It is missing or not ended, or one of which this holds.
pub record LacksLine (Holds : List ℕ → Type 0) (unread : Unread) (number : ℕ) : Type 0 where
  pub named : number ≡ unread.number
  pub holds : (line later : List ℕ) → IsCut 10 unread.rest line later → Holds line
