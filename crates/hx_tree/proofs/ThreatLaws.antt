-- Threats that are read one after the other: the cells that are kept are the empty ones that all threats so far share.
-- And each cell is in the carriers of all threats, or outside that of some.
use Rattle.std.proofs.Common.{◌≡◌, ℕ, zero, suc, ◌+◌, ◌<◌, ◌≤◌, true, false, List, [], ◌∷◌, length, get_or, refl, sym, ap, ◌∙◌, subst}
use Rattle.std.proofs.Common.{arith, ◌↔◌, ◌⊎◌, inl, inr, ⊎_elim, Option, Some, None}
use Rattle.std.specs.Prelude.{slice_get, IfSome, IsSomeAnd}
use Rattle.std.proofs.lemmas.Bool.{cases_lt, cases_Bool, false≢true}
use Rattle.std.proofs.lemmas.Option.{slice_get-get_or, slice_get_past, slice_get_within, get_or_from_slice_get}
use Rattle.hx_board.specs.Sets.{has, intersection}
use Rattle.hx_board.specs.Positions.{Board, IsEmpty}
use Rattle.hx_board.proofs.ListLaws.{of_contained}
use Rattle.hx_board.proofs.SetLaws.{has-intersection_left, has-intersection_right, has-intersection_both}
use Rattle.hx_link.specs.declared.links.Link.{Link}
use Rattle.hx_link.specs.Steps.{IsChainLink}
use Rattle.hx_tree.specs.Steps.{IsThreat, IsThreatOn, AreThreats, IsInEachThreat, IsOutsideThreat}
use Rattle.hx_tree.specs.declared.steps.TheConstants.{MOST_THREATS}
use Rattle.hx_tree.specs.Answers.{IsToAnswer}

-- ---- each cell is in the carriers of all threats, or outside some

-- a link at a place, in whose carrier the cell is not
record LinkWithout (links : List Link) (place cell : ℕ) : Type 0 where
  link : Link
  there : slice_get links place ≡ Some link
  outside : has link.carrier cell ≡ false

in_or_outside : (links : List Link) (place cell : ℕ) (found : Option Link) → slice_get links place ≡ found → IsSomeAnd found IsChainLink
    → IsSomeAnd found (λ link. has link.carrier cell ≡ true) ⊎ LinkWithout links place cell
in_or_outside links place cell None there threat = absurd threat
in_or_outside links place cell (Some link) there threat =
    ⊎_elim inl (λ outside. inr (record { link = link; there = there; outside = outside })) (cases_Bool (has link.carrier cell))

-- each cell is in the carriers of all threats, or outside some
pub shared_or_outside : (links : List Link) (threats : List ℕ) (cell : ℕ) → ((k : ℕ) → IfSome (slice_get threats k) (IsThreat links))
    → IsInEachThreat links threats cell ⊎ IsOutsideThreat links threats cell
shared_or_outside links [] cell each = inl none
  where
    none : IsInEachThreat links [] cell
    none zero = tt
    none (suc k) = tt
shared_or_outside links (place ∷ places) cell each =
    ⊎_elim
    (λ here. ⊎_elim (λ rest. inl (shared here rest)) (λ later. inr (outside_later later))
    (shared_or_outside links places cell (λ k. each (suc k))))
    (λ without. inr (record {
      place = place;
      is_threat = (0, omega arith, refl);
      link = without.link;
      there = without.there;
      outside =
          without.outside;
    }))
    (in_or_outside links place cell (slice_get links place) refl (each zero))
  where
    shared : IsSomeAnd (slice_get links place) (λ link. has link.carrier cell ≡ true) → IsInEachThreat links places cell
        → IsInEachThreat links (place ∷ places) cell
    shared here rest zero = here
    shared here rest (suc k) = rest k

    outside_later : IsOutsideThreat links places cell → IsOutsideThreat links (place ∷ places) cell
    outside_later later = record {
      place = later.place;
      is_threat = (suc later.is_threat.0, omega (arith, later.is_threat.1), later.is_threat.2);
      link = later.link;
      there = later.there;
      outside = later.outside;
    }

pub outside-not_shared : (links : List Link) (threats : List ℕ) (cell : ℕ) → IsOutsideThreat links threats cell
    → ¬ IsInEachThreat links threats cell
outside-not_shared links threats cell outside shared =
    let Q : Option Link → Type 0 = λ o. IsSomeAnd o (λ link. has link.carrier cell ≡ true) in
    false≢true (sym outside.outside
    ∙ subst Q outside.there (of_contained (λ (place : ℕ). Q (slice_get links place)) threats outside.place shared outside.is_threat))

-- ---- the same by the place among the threats

abbrev Lacks : List Link → ℕ → ℕ → Type 0
Lacks links cell place = IsSomeAnd (slice_get links place) (λ link. has link.carrier cell ≡ false)

pub outside-lacks : (links : List Link) (threats : List ℕ) (cell : ℕ) → IsOutsideThreat links threats cell
    → (k : ℕ) × IsSomeAnd (slice_get threats k) (Lacks links cell)
outside-lacks links threats cell out =
    let P : Option ℕ → Type 0 = λ o. IsSomeAnd o (Lacks links cell) in
    let Q : Option Link → Type 0 = λ o. IsSomeAnd o (λ link. has link.carrier cell ≡ false) in
    let at : slice_get threats out.is_threat.0 ≡ Some out.place =
    slice_get-get_or threats out.is_threat.0 out.place out.is_threat.1 ∙ ap Some out.is_threat.2 in
    (out.is_threat.0, subst P (sym at) (subst Q (sym out.there) out.outside))

link-outside : (links : List Link) (threats : List ℕ) (cell k place : ℕ) → slice_get threats k ≡ Some place → (found : Option Link)
    → slice_get links place ≡ found → IsSomeAnd found (λ link. has link.carrier cell ≡ false) → IsOutsideThreat links threats cell
link-outside links threats cell k place at None there lacks = absurd lacks
link-outside links threats cell k place at (Some link) there lacks = record {
  place = place;
  is_threat = (k, slice_get_within threats k place at, get_or_from_slice_get threats k place place at);
  link = link;
  there = there;
  outside = lacks;
}

place-outside : (links : List Link) (threats : List ℕ) (cell k : ℕ) (found : Option ℕ) → slice_get threats k ≡ found
    → IsSomeAnd found (Lacks links cell) → IsOutsideThreat links threats cell
place-outside links threats cell k None at lacks = absurd lacks
place-outside links threats cell k (Some place) at lacks = link-outside links threats cell k place at (slice_get links place) refl lacks

pub lacks-outside : (links : List Link) (threats : List ℕ) (cell : ℕ) → (k : ℕ) × IsSomeAnd (slice_get threats k) (Lacks links cell)
    → IsOutsideThreat links threats cell
lacks-outside links threats cell lacks = place-outside links threats cell lacks.0 (slice_get threats lacks.0) refl lacks.1

-- ---- threats one after the other

module _ (board : Board) (links : List Link) (threats : List ℕ) where
  -- the cell is in the carrier of the link at a place
  abbrev IsIn : ℕ → ℕ → Type 0
  IsIn cell place = IsSomeAnd (slice_get links place) (λ link. has link.carrier cell ≡ true)

  abbrev pub InFirst : ℕ → ℕ → Type 0
  InFirst count cell = (k : ℕ) → k < count → IfSome (slice_get threats k) (IsIn cell)

  -- the first threats are threats, and the set has the empty cells that they share
  pub record AreShared (count shared : ℕ) : Type 0 where
    pub each : (k : ℕ) → k < count → IfSome (slice_get threats k) (IsThreat links)
    pub cells : (cell : ℕ) → (has shared cell ≡ true) ↔ (IsEmpty board cell × InFirst count cell)

  pub none_shared : (empties : ℕ) → ((cell : ℕ) → (has empties cell ≡ true) ↔ IsEmpty board cell) → AreShared 0 empties
  none_shared empties are = record {
    each = λ k less. absurd (omega arith);
    cells = λ cell. (λ member. ((are cell).0 member, λ k less. absurd (omega arith)), λ both. (are cell).1 both.0);
  }

  at_place : (P : ℕ → Type 0) (k place : ℕ) → k < length threats → get_or threats k place ≡ place → P place → IfSome (slice_get threats k) P
  at_place P k place less is holds = let Q : Option ℕ → Type 0 = λ o. IfSome o P in
      subst Q (sym (slice_get-get_or threats k place less ∙ ap Some is)) holds

  from_place : (P : ℕ → Type 0) (k place : ℕ) → k < length threats → get_or threats k place ≡ place → IfSome (slice_get threats k) P
      → P place
  from_place P k place less is holds = let Q : Option ℕ → Type 0 = λ o. IfSome o P in
      subst Q (slice_get-get_or threats k place less ∙ ap Some is) holds

  more : (P : ℕ → Type 0) (count place : ℕ) → count < length threats → place ≡ get_or threats count place
      → ((k : ℕ) → k < count → IfSome (slice_get threats k) P) → P place
      → (k : ℕ) → k < count + 1 → IfSome (slice_get threats k) P
  more P count place less is before holds k within =
      ⊎_elim (before k)
      (λ (from : count ≤ k). let same : count ≡ k = omega arith in let Q : ℕ → Type 0 = λ n. IfSome (slice_get threats n) P in
      subst Q same (at_place P count place less (sym is) holds))
      (cases_lt k count)

  module _ (count place carrier shared : ℕ) (less : count < length threats) (is : place ≡ get_or threats count place)
      (before : AreShared count shared) where
    pub one_more_shared : IsThreatOn links place carrier → AreShared (count + 1) (intersection shared carrier)
    one_more_shared threat =
        let Joins : Option Link → Type 0 = λ o. IsSomeAnd o (λ link. IsChainLink link) in
        let In : ℕ → Option Link → Type 0 = λ cell o. IsSomeAnd o (λ link. has link.carrier cell ≡ true) in
        record {
          each = more (IsThreat links) count place less is before.each (subst Joins (sym threat.there) threat.joins);
          cells = λ cell. (
            λ member.
                let was = (before.cells cell).0 (has-intersection_left shared carrier cell member) in
                let here : has threat.link.carrier cell ≡ true = ap (λ c. has c cell) threat.carrier_is
                ∙ has-intersection_right shared carrier cell member in
                (was.0, more (IsIn cell) count place less is was.1 (subst (In cell) (sym threat.there) here)),
            λ both.
                let here : has threat.link.carrier cell ≡ true =
                subst (In cell) threat.there (from_place (IsIn cell) count place less (sym is) (both.1 count (omega arith))) in
                has-intersection_both shared carrier cell ((before.cells cell).1 (both.0, λ k within. both.1 k (omega arith)))
                (ap (λ c. has c cell) (sym threat.carrier_is) ∙ here),
          );
        }

    pub no_threats : ¬ IsThreat links place → ¬ AreThreats links threats
    no_threats none are = none (from_place (IsThreat links) count place less (sym is) (are.each count))

  past : (P : ℕ → Type 0) (count : ℕ) → length threats ≤ count → ((k : ℕ) → k < count → IfSome (slice_get threats k) P) → (k : ℕ)
      → IfSome (slice_get threats k) P
  past P count end each k =
      ⊎_elim (each k)
      (λ (from : count ≤ k). let Q : Option ℕ → Type 0 = λ o. IfSome o P in subst Q (sym (slice_get_past threats k (omega arith))) tt)
      (cases_lt k count)

  pub all_shared : (count shared : ℕ) → length threats ≤ count → length threats ≤ MOST_THREATS → AreShared count shared
      → AreThreats links threats × ((cell : ℕ) → (has shared cell ≡ true) ↔ IsToAnswer board links threats cell)
  all_shared count shared end few are = (
    record { few = few; each = past (IsThreat links) count end are.each },
    λ cell. (
      λ member. let both = (are.cells cell).0 member in record { empty = both.0; shared = past (IsIn cell) count end both.1 },
      λ is. (are.cells cell).1 (is.empty, λ k less. is.shared k),
    ),
  )
