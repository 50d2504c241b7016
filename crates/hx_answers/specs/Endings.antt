-- How a command ends that gives one answer: with the answer and its status, or with a fault or want of memory.
use Rattle.std.specs.Prelude.{◌≡◌, ◌⊎◌, ℕ, List, [], Option, Some, IfSome}
use Rattle.hx_io.specs.Sinks.{Writing, SomeWriteFailed, append, TakesFront}

-- a text with its status: it was written whole, or the sink failed before it took all of it
pub data IsWritten (before now : Writing) (text : List ℕ) (wanted status : ℕ) : Type 0 where
  Whole : status ≡ wanted → now.taken ≡ append before.taken text → IsWritten before now text wanted status
  Cut : status ≡ 6 → SomeWriteFailed before now → TakesFront before.taken now.taken text
      → IsWritten before now text wanted status

-- the input was read to its end, where the source tells it
abbrev pub IsReadToEnd : Option (List ℕ) → Option (List ℕ) → Type 0
IsReadToEnd before now = IfSome before (λ input. now ≡ Some [])

-- The status of a read that failed, of a write that failed, or of want of memory. It is the status alone: that its
-- cause came is said elsewhere, and want of memory needs none.
abbrev pub IsStopped : ℕ → Type 0
IsStopped status = (status ≡ 5) ⊎ ((status ≡ 6) ⊎ (status ≡ 7))

-- this status, unless a fault or want of memory came in its place
abbrev pub IsUnlessStopped : ℕ → ℕ → Type 0
IsUnlessStopped status wanted = (status ≡ wanted) ⊎ IsStopped status

-- this text was written and has this status, unless a fault or want of memory came in its place
abbrev pub AnswersUnlessStopped : List ℕ → ℕ → Option (List ℕ) → Option (List ℕ) → ℕ → Type 0
AnswersUnlessStopped text wanted before now status = ((status ≡ wanted) × (now ≡ append before text)) ⊎ IsStopped status
