-- What the command `htp` does, and what a run of it is good for.
use Rattle.std.specs.Prelude.{◌≡◌, ◌⊎◌, ℕ, ◌≤◌, List, length, IfSome, Result, Ok, IsErr}
use Rattle.hx_io.specs.Sources.{Reading, SomeReadFailed}
use Rattle.hx_io.specs.Sinks.{Writing, SomeWriteFailed}
use Rattle.hx_board.specs.declared.Memory.{Memory as OutOfMemory}
use Rattle.hx_limits.specs.declared.settings.Settings.{Settings}
use Rattle.hx_limits.specs.declared.ran_out.RanOut.{RanOut}
use Rattle.hx_limits.specs.declared.ran_out.RanOut.TheVariants as unsolved
use Rattle.hx_limits.specs.Tallies.{Tallied, tallied}
use Rattle.hx_htp.specs.declared.answerers.Told.{Told}
use Rattle.hx_htp.specs.declared.answerers.Told.TheVariants as told
use Rattle.hx_htp.specs.Accounts.{Account}
use Rattle.hx_htp.specs.Runs.{SessionRun, until_quit}
use Rattle.hx_htp.specs.Laws.{IsCounted, NamesWinners}
use Rattle.hx_lines.specs.declared.ended.Ended.{Ended}
use Rattle.hx_lines.specs.declared.ended.Ended.TheVariants.{Stopped, Over, ReadFault, WriteFault, TooLong}
use Rattle.hx_lines.specs.Services.{most_lines}
use Rattle.hx_cmd_htp.specs.Serving.{Ends, IsDone, IsReadFault, IsTooLong, IsWriteFault, IsWithinLimits}
use Rattle.hx_finish.specs.declared.finishes.Finish.{Finish}

-- what a tally tells of the questions of a session
abbrev pub account_of : Tallied → Account
account_of tally =
    record { budget = tally.budget; slots = tally.slots; budgets = tally.budgets; proofs = tally.proofs }

-- the account of a session that has asked nothing yet
abbrev pub start_of : Settings → Account
start_of settings = account_of (tallied settings.budget settings.slots 0 0)

-- the exit status of each end
abbrev pub status_of_end : Ended → ℕ
status_of_end Stopped = 0
status_of_end Over = 0
status_of_end ReadFault = 5
status_of_end WriteFault = 6
status_of_end TooLong = 8

-- an end by a fault has its cause
abbrev pub EndHasCause : Type 0 → Type 0 → Ended → Type 0
EndHasCause rose sink_rose Stopped = Unit {0}
EndHasCause rose sink_rose Over = Unit {0}
EndHasCause rose sink_rose ReadFault = rose
EndHasCause rose sink_rose WriteFault = sink_rose
EndHasCause rose sink_rose TooLong = Unit {0}

-- A run of `htp`: a session answered the lines of the input, from counts 0 to those of the tally, and came to an end.
pub record IsSessionRun (settings : Settings) (source source_now : Reading) (sink sink_now : Writing)
    (finish : Finish) : Type 0 where
  pub ended : Ended
  pub ends : Ends (start_of settings)
      (account_of finish.tally) source.left source_now.left sink.taken sink_now.taken ended
  pub cause : EndHasCause (SomeReadFailed source source_now) (SomeWriteFailed sink sink_now) ended
  pub status : finish.status ≡ status_of_end ended

-- this status, unless a fault came in its place
abbrev pub IsUnlessFault : ℕ → ℕ → Type 0
IsUnlessFault status wanted = (status ≡ wanted) ⊎ ((status ≡ 5) ⊎ (status ≡ 6))

-- each player whom a session from here to there names to `solve` wins, and the other one does not
abbrev pub EachRunNamesWinners : Account → Account → Type 0
EachRunNamesWinners before after =
    (lines : List (List ℕ)) (replies : List ℕ) (run : SessionRun before lines replies after) → NamesWinners run.run

-- each session from here to there has no more replies that name a limit than the counts tell
abbrev pub EachRunIsCounted : Account → Account → Type 0
EachRunIsCounted before after =
    (lines : List (List ℕ)) (replies : List ℕ) (run : SessionRun before lines replies after)
    → length (until_quit lines) ≤ most_lines → IsCounted run

-- The promises of `htp` with its settings, by how far its source was read before and is now, how far was written to its
-- sink, and how it ended. What is said of an input is said of sources that tell what they have left.
pub record KeepsPromises (settings : Settings) (source source_now : Reading) (sink sink_now : Writing)
    (finish : Finish) : Type 0 where
  -- with status 0 the output is the replies of a session to the lines of the input, to all of them or to those up to
  -- `quit`
  pub replies : finish.status ≡ 0 → IfSome source.left
      (IsDone (start_of settings) (account_of finish.tally) source_now.left sink.taken sink_now.taken)
  -- with status 5 it is the replies to all lines whose LF was read, and words that say so; with status 6 a front of an
  -- output
  pub read_fault : finish.status ≡ 5
      → SomeReadFailed source source_now
      × IsReadFault (start_of settings) (account_of finish.tally) source.left source_now.left sink.taken sink_now.taken
  pub write_fault : finish.status ≡ 6
      → SomeWriteFailed sink sink_now
      × IsWriteFault (start_of settings) (account_of finish.tally) source.left source_now.left sink.taken sink_now.taken
  -- with status 8 it is the replies to all lines before a limit, and words that say so
  pub too_long : finish.status ≡ 8
      → IfSome source.left (λ input. IsTooLong (start_of settings)
      (account_of finish.tally) input sink.taken sink_now.taken)
  -- an input whose lines up to `quit` are within the limits ends with 0, and any other with 8
  pub within : IfSome source.left (λ input. IsWithinLimits input → IsUnlessFault finish.status 0)
  pub above : IfSome source.left (λ input. (IsWithinLimits input → ⊥) → IsUnlessFault finish.status 8)
  -- each player whom a reply to `solve` names wins the position, and the other one does not
  pub winners : EachRunNamesWinners (start_of settings) (account_of finish.tally)
  -- the tally has counted each reply that names a limit
  pub counted : EachRunIsCounted (start_of settings) (account_of finish.tally)
  -- and no other status comes: where memory is wanting a reply says so, and the session goes on
  pub none_else : (finish.status ≡ 8) ⊎ IsUnlessFault finish.status 0

-- ---- words for the functions inside the crate alone

-- the tally counts the refusals of the budget and of the slots of the settings
pub record IsOfSettings (settings : Settings) (tally : Tallied) : Type 0 where
  pub budget : tally.budget ≡ settings.budget
  pub slots : tally.slots ≡ settings.slots

-- what is told where there is no tree
abbrev pub TellsWhy : Settings → RanOut → Result Told OutOfMemory → Type 0
TellsWhy settings (unsolved.Budget taken) result = result ≡ Ok (told.Budget settings.budget)
TellsWhy settings (unsolved.Slots refusal) result = result ≡ Ok (told.Slots settings.slots)
TellsWhy settings unsolved.Memory result = IsErr result
