-- Parts that are added later do not change what an Or before them is.
use Rattle.std.proofs.Common.{◌≡◌, ◌+◌, ◌<◌, ◌≤◌, ◌++◌, ◌-◌, ℕ, List, [], ◌∷◌, length, get_or, take, drop, suc, refl, ap, ◌∙◌, arith}
use Rattle.std.proofs.lemmas.List.{drop-append-le, take-append-le, length-drop, length-map, take_all, take_more, drop_at, map-append}
use Rattle.std.proofs.lemmas.List.{get_or-map}
use Rattle.std.proofs.lemmas.List.Elements.{All-push}
use Rattle.hx_link.specs.declared.steps.Step.{Step}
use Rattle.hx_link.specs.declared.steps.Step.TheVariants.{Or}
use Rattle.hx_packed.specs.declared.steps.KeptStep.{KeptStep}
use Rattle.hx_packed.specs.declared.steps.KeptStep.TheVariants.{Base, AndStone, AndCell, Or as KeptOr}
use Rattle.hx_packed.specs.KeptSteps.{step_of, steps_of, HasParts, HaveParts}

-- a step that has its parts stays the same
pub same-step : (parts more : List ℕ) (kept : KeptStep) → HasParts (length parts) kept
    → step_of (parts ++ more) kept ≡ step_of parts kept
same-step parts more (Base a b) has = refl
same-step parts more (AndStone left right) has = refl
same-step parts more (AndCell left right) has = refl
same-step parts more (KeptOr from count) has =
    let first : drop from (parts ++ more) ≡ drop from parts ++ more =
    drop-append-le from parts more (omega arith) in
    let long : length (drop from parts) ≡ length parts - from = length-drop from parts in
    let then : take count (drop from parts ++ more) ≡ take count (drop from parts) =
    take-append-le count (drop from parts) more (omega arith) in
    ap Or (ap (take count) first ∙ then)

-- and so do all
pub same-steps : (parts more : List ℕ) (kept : List KeptStep) → HaveParts (length parts) kept
    → steps_of (parts ++ more) kept ≡ steps_of parts kept
same-steps parts more [] have = refl
same-steps parts more (first ∷ rest) have =
    let same : step_of (parts ++ more) first ≡ step_of parts first = same-step parts more first (have 0 first (omega arith)) in
    let others : steps_of (parts ++ more) rest ≡ steps_of parts rest =
    same-steps parts more rest (λ k d within. have (suc k) d (omega arith)) in
    cc

-- the parts that were added last are those of the Or that begins with them
pub added-parts : (parts more : List ℕ) → take (length more) (drop (length parts) (parts ++ more)) ≡ more
added-parts parts more =
    rw (drop_at parts more (length parts) refl) (take_all (length more) more (omega arith))

-- an Or of parts that were added for it comes behind the steps before it
pub or-behind : (parts more : List ℕ) (kept : List KeptStep) → HaveParts (length parts) kept
    → steps_of (parts ++ more) (kept ++ KeptOr (length parts) (length more) ∷ []) ≡ steps_of parts kept ++ Or more ∷ []
or-behind parts more kept have =
    let split : steps_of (parts ++ more) (kept ++ KeptOr (length parts) (length more) ∷ [])
    ≡ steps_of (parts ++ more) kept ++ step_of (parts ++ more) (KeptOr (length parts) (length more)) ∷ [] =
    map-append (step_of (parts ++ more)) kept (KeptOr (length parts) (length more) ∷ []) in
    let same : steps_of (parts ++ more) kept ≡ steps_of parts kept = same-steps parts more kept have in
    let added : take (length more) (drop (length parts) (parts ++ more)) ≡ more = added-parts parts more in
    cc

-- the same, of lists that are these
pub or-put : (parts more all : List ℕ) (from count : ℕ) (old new : List KeptStep) (seen : List Step)
    → HaveParts (length parts) old → steps_of parts old ≡ seen → all ≡ parts ++ more → from ≡ length parts → count ≡ length more
    → new ≡ old ++ KeptOr from count ∷ [] → steps_of all new ≡ seen ++ Or more ∷ []
or-put parts more all from count old new seen have is all_is from_is count_is new_is =
    let behind : steps_of (parts ++ more) (old ++ KeptOr (length parts) (length more) ∷ []) ≡ steps_of parts old ++ Or more ∷ [] =
    or-behind parts more old have in
    cc

-- one step more of those that are kept
pub step-more : (parts : List ℕ) (kept : List KeptStep) (k : ℕ) (one : KeptStep) (seen : List Step) → k < length kept
    → one ≡ get_or kept k one → steps_of parts kept ≡ seen → take k seen ++ step_of parts one ∷ [] ≡ take (k + 1) seen
step-more parts kept k one seen within there is =
    let read : get_or (steps_of parts kept) k (step_of parts one) ≡ step_of parts (get_or kept k one) =
    get_or-map (step_of parts) kept k one (step_of parts one) within in
    let long : length (steps_of parts kept) ≡ length kept = length-map kept (step_of parts) in
    let more : take (k + 1) (steps_of parts kept) ≡ take k (steps_of parts kept)
    ++ get_or (steps_of parts kept) k (step_of parts one) ∷ [] =
    take_more (steps_of parts kept) k (step_of parts one) (omega arith) in
    cc

-- more parts are enough, too
pub more-parts : (few many : ℕ) (kept : KeptStep) → few ≤ many → HasParts few kept → HasParts many kept
more-parts few many (Base a b) more has = has
more-parts few many (AndStone left right) more has = has
more-parts few many (AndCell left right) more has = has
more-parts few many (KeptOr from count) more has = omega arith

-- one step more that has its parts
pub have-more : (few many : ℕ) (steps : List KeptStep) (kept : KeptStep) → few ≤ many → HaveParts few steps
    → HasParts many kept → HaveParts many (steps ++ kept ∷ [])
have-more few many steps kept more have has =
    All-push (HasParts many) steps kept
    (λ (k : ℕ) (d : KeptStep) (within : k < length steps). more-parts few many _ more (have k d within)) has
