-- What a writer does that keeps what it spelled until there is enough to be written.
use Rattle.std.specs.Prelude.{◌≡◌, ℕ, List, [], ◌∷◌, ◌++◌, flat_map, Option, Result, MatchResult}
use Rattle.std.specs.Fmt.{decimal}
use Rattle.hx_io.specs.Causes.{HasCause}
use Rattle.hx_io.specs.Sinks.{Writing, append, TakesFront}

-- some of the text has gone to the sink, and the rest of it is held
pub record IsOut (old new : Option (List ℕ)) (held text : List ℕ) : Type 0 where
  pub gone : List ℕ
  pub taken : new ≡ append old gone
  pub same : gone ++ held ≡ text

-- What the sink took and what is held, before and after: at `Ok` what was held and these bytes have gone or are held;
-- at `Err` they have gone up to some place before their end.
abbrev pub IsSpelled : {T E : Type 0} → Option (List ℕ) → List ℕ → Option (List ℕ) → List ℕ
    → Result T E → List ℕ → Type 0
IsSpelled old held new holds result bytes =
    MatchResult result (λ _. IsOut old new holds (held ++ bytes)) (λ _. TakesFront old new (held ++ bytes))

-- what a call does that spells these bytes: what the sink took and what is held, and the cause where it failed
pub record Spells {T E : Type 0} (before now : Writing) (held holds : List ℕ) (result : Result T E)
    (text : List ℕ) : Type 0 where
  pub bytes : IsSpelled before.taken held now.taken holds result text
  pub cause : HasCause before.faults now.faults result

-- the line of each item, with its LF
abbrev pub each_line : {X : Type 0} → (X → List ℕ) → List X → List ℕ
each_line line items = flat_map (λ item. line item ++ 10 ∷ []) items

-- a part of an Or, with the space before it
abbrev pub part_text : ℕ → List ℕ
part_text part = 32 ∷ decimal part

abbrev pub parts_text : List ℕ → List ℕ
parts_text parts = flat_map part_text parts
