-- How a service over the lines of a source ends, and what it has read and written then. A service answers lines one
-- after the other, until it stops behind one or no line is left. Which replies answer which lines is told by a
-- relation, `answers`: it speaks of the lines that were answered, and of no others.
use Rattle.std.specs.Prelude.{◌≡◌, ℕ, ◌<◌, ◌≤◌, Bool, true, false, List, [], ◌∷◌, ◌++◌, length, All, Option, Some}
use Rattle.std.specs.Prelude.{IfSome, IfOk, Result, Ok, Err}
use Rattle.hx_io.specs.Sources.{prepend}
use Rattle.hx_io.specs.Sinks.{Writing, append, TakesFront, WritesAll}
use Rattle.hx_lines.specs.declared.cutters.Cut.{Cut}
use Rattle.hx_lines.specs.declared.cutters.Cut.TheVariants as cut
use Rattle.hx_lines.specs.Lines.{HasLf, longest, ended_lines, lines_of}
use Rattle.hx_lines.specs.declared.ended.Ended.{Ended}
use Rattle.hx_lines.specs.declared.ended.Ended.TheVariants.{Stopped, Over, ReadFault, WriteFault, TooLong}

-- the last words of a service: where no line is left, where a read failed, and at a limit
pub record Service : Type 0 where
  pub over_words : List ℕ
  pub read_fault_words : List ℕ
  pub too_long_words : List ℕ

-- which replies answer which lines, and whether the service stops behind the last of them
abbrev pub Answers : Type 1
Answers = List (List ℕ) → List ℕ → Bool → Type 0

-- the most lines of a service
abbrev pub most_lines : ℕ
most_lines = 1048576

-- no line has more bytes than a line may have
abbrev pub AreShort : List (List ℕ) → Type 0
AreShort lines = All (λ line. length line ≤ longest) lines

-- the lines are short, and no more than the most
pub record AreWithinLimits (lines : List (List ℕ)) : Type 0 where
  pub short : AreShort lines
  pub few : length lines ≤ most_lines

-- these are the first lines of the input
pub record AreFirst (input : List ℕ) (lines : List (List ℕ)) : Type 0 where
  pub later : List (List ℕ)
  pub parts : lines_of input ≡ lines ++ later

-- These lines were answered: the sink took the replies, and these words behind them.
pub record Answered (answers : Answers) (taken now : Option (List ℕ)) (lines : List (List ℕ)) (stopped : Bool)
    (words : List ℕ) : Type 0 where
  pub replies : List ℕ
  pub run : answers lines replies stopped
  pub wrote : now ≡ append taken (replies ++ words)

-- the service stopped behind the last of some first lines, which are within the limits
pub record IsStopped (answers : Answers) (taken now : Option (List ℕ)) (input : List ℕ) : Type 0 where
  pub lines : List (List ℕ)
  pub first : AreFirst input lines
  pub within : AreWithinLimits lines
  pub answered : Answered answers taken now lines true []

-- the input was read to its end, and all its lines were answered, which are within the limits; the service did not stop
pub record IsOver (service : Service) (answers : Answers) (left taken now : Option (List ℕ))
    (input : List ℕ) : Type 0 where
  pub read_out : left ≡ Some []
  pub within : AreWithinLimits (lines_of input)
  pub answered : Answered answers taken now (lines_of input) false service.over_words

-- lines that were read with their LF, and are within the limits
pub record ArePassed (lines : List (List ℕ)) : Type 0 where
  pub plain : All (λ line. ¬ HasLf line) lines
  pub within : AreWithinLimits lines

-- these are all lines whose LF was read; the bytes that were read behind them have none, and may begin a short line
pub record AreAllRead (before left : Option (List ℕ)) (lines : List (List ℕ)) : Type 0 where
  pub held : List ℕ
  pub parts : before ≡ prepend (ended_lines lines ++ held) left
  pub passed : ArePassed lines
  pub plain : ¬ HasLf held
  pub short : length held ≤ longest

-- all lines whose LF was read were answered, and the service did not stop
pub record IsReadFault (service : Service) (answers : Answers) (before left taken now : Option (List ℕ)) : Type 0 where
  pub lines : List (List ℕ)
  pub all_read : AreAllRead before left lines
  pub answered : Answered answers taken now lines false service.read_fault_words

-- a line behind so many is above a limit: it has too many bytes, or too many lines are before it
pub data IsAbove (count : ℕ) (line : List ℕ) : Type 0 where
  Long : longest < length line → IsAbove count line
  Many : count ≡ most_lines → IsAbove count line

-- these are all lines before the first one that is above a limit
pub record AreBeforeLimit (input : List ℕ) (lines : List (List ℕ)) : Type 0 where
  pub line : List ℕ
  pub later : List (List ℕ)
  pub parts : lines_of input ≡ lines ++ line ∷ later
  pub passed : ArePassed lines
  pub above : IsAbove (length lines) line

-- all lines before a limit were answered, and the service did not stop
pub record IsTooLong (service : Service) (answers : Answers) (input : List ℕ)
    (taken now : Option (List ℕ)) : Type 0 where
  pub lines : List (List ℕ)
  pub before_limit : AreBeforeLimit input lines
  pub answered : Answered answers taken now lines false service.too_long_words

-- Which words belong behind the replies to these lines, behind which a service stopped or did not: none yet, or the
-- last words of a service that ends there.
pub data AreDue (service : Service) (before left : Option (List ℕ)) (lines : List (List ℕ)) (stopped : Bool)
    (words : List ℕ) : Type 0 where
  No_words : words ≡ [] → IfSome before (λ input. AreFirst input lines)
      → AreDue service before left lines stopped words
  Of_end : words ≡ service.over_words → stopped ≡ false → IfSome before (λ input. lines_of input ≡ lines)
      → AreDue service before left lines stopped words
  Of_fault : words ≡ service.read_fault_words → stopped ≡ false → AreAllRead before left lines
      → AreDue service before left lines stopped words
  Of_limit : words ≡ service.too_long_words → stopped ≡ false → IfSome before (λ input. AreBeforeLimit input lines)
      → AreDue service before left lines stopped words

-- First lines were answered, which are within the limits. The sink took a front of the replies and of the words that
-- are due behind them, and not all of it.
pub record IsWriteFault (service : Service) (answers : Answers) (before left taken now : Option (List ℕ)) : Type 0 where
  pub lines : List (List ℕ)
  pub stopped : Bool
  pub words : List ℕ
  pub replies : List ℕ
  pub due : AreDue service before left lines stopped words
  pub within : AreWithinLimits lines
  pub run : answers lines replies stopped
  pub wrote : TakesFront taken now (replies ++ words)

-- what each end says: what the source had left and has left, and what the sink had taken and has taken
abbrev pub Ends : Service → Answers → Option (List ℕ) → Option (List ℕ) → Option (List ℕ) → Option (List ℕ) → Ended
    → Type 0
Ends service answers before left taken now Stopped = IfSome before (IsStopped answers taken now)
Ends service answers before left taken now Over = IfSome before (IsOver service answers left taken now)
Ends service answers before left taken now ReadFault = IsReadFault service answers before left taken now
Ends service answers before left taken now WriteFault = IsWriteFault service answers before left taken now
Ends service answers before left taken now TooLong = IfSome before (λ input. IsTooLong service answers input taken now)

-- the last words of a service that ends so: there are none where it stopped or a write failed
abbrev pub words_at : Service → Ended → List ℕ
words_at service Stopped = []
words_at service Over = service.over_words
words_at service ReadFault = service.read_fault_words
words_at service WriteFault = []
words_at service TooLong = service.too_long_words

-- A text of which this holds was written, or a front of it where the sink failed; and it was told whether the service
-- stops behind it.
pub record Replies {E : Type 0} (IsReply : List ℕ → Bool → Type 0) (before now : Writing)
    (result : Result Bool E) : Type 0 where
  pub text : List ℕ
  pub stops : Bool
  pub is_reply : IsReply text stops
  pub told : IfOk result (λ told. told ≡ stops)
  pub written : WritesAll before now result text

-- the step from a line to its reply: behind lines that were answered so it answers one more, and stops or goes on
abbrev pub StepsOn : Answers → List ℕ → List ℕ → Bool → Answers → Type 0
StepsOn answers line reply stops then_answers =
    (lines : List (List ℕ)) (replies : List ℕ) → answers lines replies false
    → then_answers (lines ++ line ∷ []) (replies ++ reply) stops

-- what is answered by the one is answered by the other
abbrev pub Completes : Answers → Answers → Type 0
Completes runs answers =
    (lines : List (List ℕ)) (replies : List ℕ) (stopped : Bool) → runs lines replies stopped
    → answers lines replies stopped

-- ---- words for the functions inside the crate alone

-- the last words were written, or a front of them
pub data SaysLast (old new : Option (List ℕ)) (words : List ℕ) (ended result : Ended) : Type 0 where
  Whole : result ≡ ended → new ≡ append old words → SaysLast old new words ended result
  Front : result ≡ WriteFault → TakesFront old new words → SaysLast old new words ended result

-- how a service ends where no line is answered
abbrev pub end_at : {E : Type 0} → Result Cut E → Ended
end_at (Ok cut.Over) = Over
end_at (Ok _) = TooLong
end_at (Err _) = ReadFault

-- So many lines were read and answered, and the service goes on: what the source had left and the sink had taken when
-- it began; how many lines; the bytes that are held behind them, and what is left and was taken.
pub record Stands (answers : Answers) (before taken : Option (List ℕ)) (count : ℕ) (held : List ℕ)
    (left now : Option (List ℕ)) : Type 0 where
  pub lines : List (List ℕ)
  pub replies : List ℕ
  pub passed : ArePassed lines
  pub counted : length lines ≡ count
  pub parts : before ≡ prepend (ended_lines lines ++ held) left
  pub run : answers lines replies false
  pub wrote : now ≡ append taken replies
