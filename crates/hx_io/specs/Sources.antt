-- What a source has left, where it tells that, and what a read takes of it.
--
-- What is left and the faults are one record, `Reading`: contracts name both, and with one ghost state for them a
-- contract names half as many values.
use Rattle.std.specs.Prelude.{◌≡◌, ℕ, List, [], ◌++◌, take, Result, MatchResult, Option, None, Some, IfSome, IfOk}
use Rattle.hx_io.specs.Causes.{HasCause, Rose}

-- how far a source was read: the bytes left, or `None` where it tells nothing of them, and how many calls failed
pub record Reading : Type 0 where
  pub left : Option (List ℕ)
  pub faults : ℕ

-- some read failed between these two
abbrev pub SomeReadFailed : Reading → Reading → Type 0
SomeReadFailed before now = Rose before.faults now.faults

-- these bytes, and then what is left
abbrev pub prepend : List ℕ → Option (List ℕ) → Option (List ℕ)
prepend bytes None = None
prepend bytes (Some left) = Some (bytes ++ left)

-- nothing is left, where that is told
abbrev pub IsAtEnd : Option (List ℕ) → Type 0
IsAtEnd left = IfSome left (λ bytes. bytes ≡ [])

-- what a read does: it takes bytes into the front of the buffer, none only at the end, or it fails and takes none
pub record Reads {E : Type 0} (before now : Reading) (result : Result ℕ E) (buffer : List ℕ) : Type 0 where
  pub bytes : MatchResult result (λ n. before.left ≡ prepend (take n buffer) now.left) (λ _. now.left ≡ before.left)
  pub end : IfOk result (λ n. n ≡ 0 → IsAtEnd now.left)
  pub cause : HasCause before.faults now.faults result

-- a source in memory: the bytes that are left, the most that a call gives, the numbers of the calls that fail,
-- and how many calls were made and how many of them failed
pub record SourceState : Type 0 where
  pub left : List ℕ
  pub piece : ℕ
  pub fail : List ℕ
  pub calls : ℕ
  pub faults : ℕ
