-- A text that goes out to a sink in pieces: what has gone, and then what is still held, is the text so far.
use Rattle.std.proofs.Common.{◌≡◌, ℕ, ◌+◌, ◌<◌, List, [], ◌∷◌, ◌++◌, length, get_or, take, drop, ap, sym, ◌∙◌, subst, append_assoc}
use Rattle.std.specs.Prelude.{flat_map, Option, Result, Ok, Err, IsErr}
use Rattle.std.proofs.lemmas.Result.{MatchResult-from_err}
use Rattle.std.proofs.lemmas.List.{take_more, take-append-drop, flat_map_more}
use Rattle.std.proofs.lemmas.Grind.{flat_map-append}
use Rattle.hx_io.specs.Sinks.{TakesFront, TakesAll}
use Rattle.hx_io.proofs.SinkLaws.{append-then, TakesFront-append, TakesFront-then, TakesAll-then}
use Rattle.hx_text.specs.Spelling.{IsOut, IsSpelled}

-- what is held at the end goes out
pub IsOut-end : {T E : Type 0} (old between new : Option (List ℕ)) (held text : List ℕ) (result : Result T E) → IsOut old between held text
    → TakesAll between new result held → TakesAll old new result text
IsOut-end old between new held text result out then =
    subst (TakesAll old new result) out.same (TakesAll-then old between new result out.gone held out.taken then)

-- the back goes on where what is held after the front ends
back_held : (gone held holds front back : List ℕ) → gone ++ holds ≡ held ++ front → gone ++ (holds ++ back) ≡ held ++ (front ++ back)
back_held gone held holds front back same =
    sym (append_assoc gone holds back) ∙ ap (λ (t : List ℕ). t ++ back) same ∙ append_assoc held front back

-- a front was spelled, and then the back
IsOut-joined : (old between new : Option (List ℕ)) (held holds last front back : List ℕ) → IsOut old between holds (held ++ front)
    → IsOut between new last (holds ++ back) → IsOut old new last (held ++ (front ++ back))
IsOut-joined old between new held holds last front back out then = record {
  gone = out.gone ++ then.gone;
  taken = append-then old between new out.gone then.gone out.taken then.taken;
  same = append_assoc out.gone then.gone last ∙ ap (λ (t : List ℕ). out.gone ++ t) then.same
      ∙ back_held out.gone held holds front back out.same;
}

-- a front was spelled, and the spelling of the back was cut short
TakesFront-joined : (old between new : Option (List ℕ)) (held holds front back : List ℕ) → IsOut old between holds (held ++ front)
    → TakesFront between new (holds ++ back) → TakesFront old new (held ++ (front ++ back))
TakesFront-joined old between new held holds front back out cut =
    subst (TakesFront old new) (back_held out.gone held holds front back out.same)
    (TakesFront-then old between new out.gone (holds ++ back) out.taken cut)

-- the spelling of a front was cut short
TakesFront-more : (old new : Option (List ℕ)) (held front back : List ℕ) → TakesFront old new (held ++ front)
    → TakesFront old new (held ++ (front ++ back))
TakesFront-more old new held front back cut =
    subst (TakesFront old new) (append_assoc held front back) (TakesFront-append old new (held ++ front) back cut)

-- a front was spelled, and then the back, or a part of it
IsSpelled-joined : {T E : Type 0} (old between new : Option (List ℕ)) (held holds last front back : List ℕ) (result : Result T E)
    → IsOut old between holds (held ++ front) → IsSpelled between holds new last result back
    → IsSpelled old held new last result (front ++ back)
IsSpelled-joined old between new held holds last front back (Ok done) out then =
    IsOut-joined old between new held holds last front back out then
IsSpelled-joined old between new held holds last front back (Err failed) out then =
    TakesFront-joined old between new held holds front back out then

-- of three pieces the first was cut short
pub first_cut_short : {T E : Type 0} (old new : Option (List ℕ)) (held last a b c : List ℕ) (result : Result T E) → IsErr result
    → TakesFront old new (held ++ a) → IsSpelled old held new last result (a ++ (b ++ c))
first_cut_short old new held last a b c result failed cut =
    MatchResult-from_err result _ _ failed (λ _. TakesFront-more old new held a (b ++ c) cut)

-- the first was spelled, and the second cut short
pub second_cut_short : {T E : Type 0} (old between new : Option (List ℕ)) (held holds last a b c : List ℕ) (result : Result T E)
    → IsErr result
    → IsOut old between holds (held ++ a) → TakesFront between new (holds ++ b) → IsSpelled old held new last result (a ++ (b ++ c))
second_cut_short old between new held holds last a b c result failed out cut =
    MatchResult-from_err result _ _ failed
    (λ _. TakesFront-joined old between new held holds a (b ++ c) out (TakesFront-more between new holds b c cut))

-- the first two were spelled, and then the third, or a part of it
pub three_spelled : {T E : Type 0} (old first second new : Option (List ℕ)) (held after_first after_second last a b c : List ℕ)
    (result : Result T E)
    → IsOut old first after_first (held ++ a) → IsOut first second after_second (after_first ++ b)
    → IsSpelled second after_second new last result c
    → IsSpelled old held new last result (a ++ (b ++ c))
three_spelled old first second new held after_first after_second last a b c result out then rest =
    IsSpelled-joined old first new held after_first last a (b ++ c) result out
    (IsSpelled-joined first second new after_first after_second last b c result then rest)

-- the texts of the items before a place, and of the item there
flat_map_next : {X : Type 0} (text : X → List ℕ) (items : List X) (place : ℕ) (item default : X) → place < length items
    → item ≡ get_or items place default → flat_map text (take (place + 1) items) ≡ flat_map text (take place items) ++ text item
flat_map_next {X} text items place item default within is =
    ap (flat_map text) (take_more items place default within ∙ ap (λ (x : X). take place items ++ x ∷ []) (sym is))
    ∙ sym (flat_map_more text [] (take place items) item)

-- the same, and of the items after it
flat_map_parts : {X : Type 0} (text : X → List ℕ) (items : List X) (place : ℕ) (item default : X) → place < length items
    → item ≡ get_or items place default
    → flat_map text (take place items) ++ (text item ++ flat_map text (drop (place + 1) items)) ≡ flat_map text items
flat_map_parts {X} text items place item default within is =
    sym (append_assoc (flat_map text (take place items)) (text item) (flat_map text (drop (place + 1) items)))
    ∙ ap (λ (t : List ℕ). t ++ flat_map text (drop (place + 1) items)) (sym (flat_map_next text items place item default within is))
    ∙ sym (flat_map-append text (take (place + 1) items) (drop (place + 1) items))
    ∙ ap (flat_map text) (take-append-drop (place + 1) items)

-- in a loop over items those before a place were spelled, and then the item there
pub each_so_far : {X : Type 0} (text : X → List ℕ) (old between new : Option (List ℕ)) (first held holds : List ℕ) (items : List X)
    (place : ℕ) (item default : X) → place < length items → item ≡ get_or items place default
    → IsOut old between held (first ++ flat_map text (take place items)) → IsOut between new holds (held ++ text item)
    → IsOut old new holds (first ++ flat_map text (take (place + 1) items))
each_so_far text old between new first held holds items place item default within is out then =
    rw (flat_map_next text items place item default within is)
    (IsOut-joined old between new first held holds (flat_map text (take place items)) (text item) out then)

-- the spelling of the item there was cut short
pub each_cut_short : {X T E : Type 0} (text : X → List ℕ) (old between new : Option (List ℕ)) (first held last : List ℕ) (items : List X)
    (place : ℕ) (item default : X) (result : Result T E) → place < length items → item ≡ get_or items place default → IsErr result
    → IsOut old between held (first ++ flat_map text (take place items)) → TakesFront between new (held ++ text item)
    → IsSpelled old first new last result (flat_map text items)
each_cut_short text old between new first held last items place item default result within is failed out cut =
    rw (← flat_map_parts text items place item default within is)
    (second_cut_short old between new first held last (flat_map text (take place items)) (text item)
    (flat_map text (drop (place + 1) items)) result failed out cut)
