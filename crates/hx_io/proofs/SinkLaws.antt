-- Several writes in a row are one.
use Rattle.std.proofs.Common.{◌≡◌, ℕ, ◌+◌, List, [], ◌++◌, take, drop, length, refl, ap, sym, ◌∙◌, append_assoc, arith, length-append}
use Rattle.std.proofs.Common.{append-nil as list_append-nil}
use Rattle.std.proofs.Math.Seq.{take-add, take-append-add}
use Rattle.std.proofs.lemmas.List.{take-append-le}
use Rattle.std.specs.Prelude.{Option, None, Some, Result, Ok, Err}
use Rattle.hx_io.specs.Sinks.{Writing, append, TakesFront, TakesAll, WritesAll}

pub append-nil : (taken : Option (List ℕ)) → append taken [] ≡ taken
append-nil None = refl
append-nil (Some taken) = ap Some (list_append-nil taken)

pub append-append : (taken : Option (List ℕ)) (front back : List ℕ) → append (append taken front) back ≡ append taken (front ++ back)
append-append None front back = refl
append-append (Some taken) front back = ap Some (append_assoc taken front back)

-- the front was added, and then the back
pub append-then : (old between new : Option (List ℕ)) (front back : List ℕ)
    → between ≡ append old front → new ≡ append between back → new ≡ append old (front ++ back)
append-then old between new front back whole then =
    then ∙ ap (λ taken. append taken back) whole ∙ append-append old front back

-- one more write, in a loop over the places of a slice
pub append-take-add : (first old new : Option (List ℕ)) (bytes : List ℕ) (place count : ℕ)
    → old ≡ append first (take place bytes) → new ≡ append old (take count (drop place bytes))
    → new ≡ append first (take (place + count) bytes)
append-take-add first old new bytes place count so_far now =
    append-then first old new (take place bytes) (take count (drop place bytes)) so_far now
    ∙ ap (append first) (sym (take-add place count bytes))

-- the writing of the front was cut short
pub TakesFront-append : (old new : Option (List ℕ)) (front back : List ℕ) → TakesFront old new front → TakesFront old new (front ++ back)
TakesFront-append old new front back cut = record {
  count = cut.count;
  short = omega (arith, cut.short, length-append front back);
  added = cut.added ∙ ap (append old) (sym (take-append-le cut.count front back (omega (arith, cut.short))));
}

-- the front was added, and the writing of the back was cut short
pub TakesFront-then : (old between new : Option (List ℕ)) (front back : List ℕ)
    → between ≡ append old front → TakesFront between new back → TakesFront old new (front ++ back)
TakesFront-then old between new front back whole cut = record {
  count = length front + cut.count;
  short = omega (arith, cut.short, length-append front back);
  added = append-then old between new front (take cut.count back) whole cut.added
      ∙ ap (append old) (sym (take-append-add front back cut.count));
}

-- the front was added, and then the back was written
pub TakesAll-then : {T E : Type 0} (old between new : Option (List ℕ)) (result : Result T E) (front back : List ℕ)
    → between ≡ append old front → TakesAll between new result back → TakesAll old new result (front ++ back)
TakesAll-then old between new (Ok x) front back whole then = append-then old between new front back whole then
TakesAll-then old between new (Err e) front back whole then = TakesFront-then old between new front back whole then

-- the front was written, and then the back
pub WritesAll-then : {T E R F : Type 0} (before between now : Writing) (done : T) (result : Result R F) (front back : List ℕ)
    → WritesAll {E = E} before between (Ok done) front → WritesAll between now result back → WritesAll before now result (front ++ back)
WritesAll-then before between now done (Ok x) front back first then = record {
  bytes = append-then before.taken between.taken now.taken front back first.bytes then.bytes;
  cause = record { later = omega (arith, first.cause.later, then.cause.later); failed = tt };
}
WritesAll-then before between now done (Err e) front back first then = record {
  bytes = TakesFront-then before.taken between.taken now.taken front back first.bytes then.bytes;
  cause = record {
    later = omega (arith, first.cause.later, then.cause.later);
    failed = omega (arith, first.cause.later, then.cause.failed);
  };
}

-- the writing of the front failed, and the back was not written
pub WritesAll-cut : {T R E : Type 0} (before now : Writing) (failed : E) (front back : List ℕ)
    → WritesAll {T = T} before now (Err failed) front → WritesAll {T = R} before now (Err failed) (front ++ back)
WritesAll-cut before now failed front back cut = record {
  bytes = TakesFront-append before.taken now.taken front back cut.bytes;
  cause = record { later = cut.cause.later; failed = cut.cause.failed };
}

-- what a function needs that writes its bytes in several pieces: name it in its `#[tactic(auto, using(..))]`
pub ruleset several_writes = (append-then, TakesFront-append, TakesFront-then, TakesAll-then)
