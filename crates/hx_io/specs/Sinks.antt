-- What a sink took, where it tells that, and what a write adds to it.
--
-- What was taken and the faults are one record, `Writing`, as those of a source are (Sources.antt). The clauses of a
-- call that writes a whole text are one record too, `WritesAll`.
use Rattle.std.specs.Prelude.{◌≡◌, ℕ, ◌<◌, ◌≤◌, List, ◌++◌, take, length, Result, MatchResult, IfOk, Option, None, Some}
use Rattle.hx_io.specs.Causes.{HasCause, Rose}

-- how far was written to a sink: the bytes taken, or `None` where it tells nothing of them, and how many calls failed
pub record Writing : Type 0 where
  pub taken : Option (List ℕ)
  pub faults : ℕ

-- some write failed between these two
abbrev pub SomeWriteFailed : Writing → Writing → Type 0
SomeWriteFailed before now = Rose before.faults now.faults

-- what was taken, and then these bytes
abbrev pub append : Option (List ℕ) → List ℕ → Option (List ℕ)
append None bytes = None
append (Some taken) bytes = Some (taken ++ bytes)

-- what a write does: the sink takes some bytes from the front of the piece, or it fails and takes none
pub record Writes {E : Type 0} (before now : Writing) (result : Result ℕ E) (piece : List ℕ) : Type 0 where
  pub bound : IfOk result (λ n. (0 < n) × (n ≤ length piece))
  pub bytes : MatchResult result (λ n. now.taken ≡ append before.taken (take n piece)) (λ _. now.taken ≡ before.taken)
  pub cause : HasCause before.faults now.faults result

-- the bytes up to some place before their end were added
pub record TakesFront (old new : Option (List ℕ)) (bytes : List ℕ) : Type 0 where
  pub count : ℕ
  pub short : count < length bytes
  pub added : new ≡ append old (take count bytes)

-- at `Ok` all bytes were added; at `Err` those up to some place before their end
abbrev pub TakesAll : {T E : Type 0} → Option (List ℕ) → Option (List ℕ) → Result T E → List ℕ → Type 0
TakesAll old new result bytes = MatchResult result (λ _. new ≡ append old bytes) (λ _. TakesFront old new bytes)

-- what a call does that writes all of a text, in as many writes as the sink wants
pub record WritesAll {T E : Type 0} (before now : Writing) (result : Result T E) (text : List ℕ) : Type 0 where
  pub bytes : TakesAll before.taken now.taken result text
  pub cause : HasCause before.faults now.faults result

-- a sink in memory: the bytes that it took, how many it takes in all and in a call, the numbers of the calls that fail,
-- and how many calls were made and how many of them failed
pub record SinkState : Type 0 where
  pub taken : List ℕ
  pub room : ℕ
  pub piece : ℕ
  pub fail : List ℕ
  pub calls : ℕ
  pub faults : ℕ
