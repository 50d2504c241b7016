-- A session as a service over the lines of a source: how it ends, and what it has read and written then.
use Rattle.std.specs.Prelude.{◌≡◌, ◌⊎◌, ℕ, Bool, true, false, List, [], ◌∷◌, ◌++◌, codes, All, Option}
use Rattle.hx_lines.specs.Lines.{lines_of}
use Rattle.hx_lines.specs.declared.ended.Ended.{Ended}
use Rattle.hx_lines.specs.Services as services
use Rattle.hx_lines.specs.Services.{Service, Answers, AreWithinLimits}
use Rattle.hx_htp.specs.Accounts.{Account}
use Rattle.hx_htp.specs.Runs.{SessionRun, asks_quit, until_quit}

-- the last words of a session: there are none where no line is left
abbrev pub session_service : Service
session_service = record {
  over_words = [];
  read_fault_words = codes "? read fault\n\n";
  too_long_words = codes "? line too long\n\n";
}

-- no line asks to quit
abbrev pub NoneAsksQuit : List (List ℕ) → Type 0
NoneAsksQuit lines = All (λ line. asks_quit line ≡ false) lines

-- the last line asks to quit, and none before it
pub record OnlyLastAsksQuit (lines : List (List ℕ)) : Type 0 where
  pub earlier : List (List ℕ)
  pub line : List ℕ
  pub parts : lines ≡ earlier ++ line ∷ []
  pub going : NoneAsksQuit earlier
  pub quits : asks_quit line ≡ true

-- a session stops behind the line that asks to quit
abbrev pub StopsByQuit : List (List ℕ) → Bool → Type 0
StopsByQuit lines true = OnlyLastAsksQuit lines
StopsByQuit lines false = NoneAsksQuit lines

-- what a session replies from this account to that one, and whether it stops behind the last line
abbrev pub session_answers : Account → Account → Answers
session_answers start account = λ lines replies stopped.
    SessionRun start lines replies account × StopsByQuit lines stopped

-- the lines up to `quit` or the end are short, and no more than the most
abbrev pub IsWithinLimits : List ℕ → Type 0
IsWithinLimits input = AreWithinLimits (until_quit (lines_of input))

-- all lines up to `quit` were answered, or all lines where none asks to quit
abbrev pub IsDone : Account → Account → Option (List ℕ) → Option (List ℕ) → Option (List ℕ) → List ℕ → Type 0
IsDone start account left taken now input =
    services.IsStopped (session_answers start account) taken now input
    ⊎ services.IsOver session_service (session_answers start account) left taken now input

-- all lines whose LF was read were answered
abbrev pub IsReadFault : Account → Account → Option (List ℕ) → Option (List ℕ) → Option (List ℕ) → Option (List ℕ)
    → Type 0
IsReadFault start account before left taken now =
    services.IsReadFault session_service (session_answers start account) before left taken now

-- First lines were answered, which are within the limits. The sink took a front of the replies and of the words that
-- are due behind them, and not all of it.
abbrev pub IsWriteFault : Account → Account → Option (List ℕ) → Option (List ℕ) → Option (List ℕ) → Option (List ℕ)
    → Type 0
IsWriteFault start account before left taken now =
    services.IsWriteFault session_service (session_answers start account) before left taken now

-- all lines before a limit were answered
abbrev pub IsTooLong : Account → Account → List ℕ → Option (List ℕ) → Option (List ℕ) → Type 0
IsTooLong start account input taken now =
    services.IsTooLong session_service (session_answers start account) input taken now

-- What each end says: the answerer's account when the session began and now, what the source had left and has left, and
-- what the sink had taken and has taken.
abbrev pub Ends : Account → Account → Option (List ℕ) → Option (List ℕ) → Option (List ℕ) → Option (List ℕ) → Ended
    → Type 0
Ends start account before left taken now ended =
    services.Ends session_service (session_answers start account) before left taken now ended
