-- A list of cells that is read from its front: they rise so far, and they are the members of a set. For the checker of
-- nodes that answer each move of the opponent. It keeps this set, and the first index that may come next. At the end
-- the set that it kept is the wanted one, or it is not; a cell below the index that may come next shows that they do
-- not rise.
use Rattle.std.proofs.Common.{◌≡◌, ℕ, ◌+◌, ◌-◌, ◌<◌, ◌≤◌, true, List, [], ◌∷◌, ◌++◌, length, length-append, get_or, refl, sym, ◌∙◌, arith}
use Rattle.std.proofs.Common.{◌↔◌, ⊎_elim}
use Rattle.std.proofs.lemmas.Bool.{cases_lt, false≢true}
use Rattle.std.proofs.lemmas.List.{get_or_append_left, get_or_default}
use Rattle.std.proofs.lemmas.List.Elements.{Contains-get_or}
use Rattle.std.proofs.Math.Seq.{get_or-append_seam}
use Rattle.std.specs.Cmp.{both_ways}
use Rattle.std.specs.List.{All, Contains}
use Rattle.std.specs.List.Sorted.{IsStrictlyIncreasing}
use Rattle.hx_board.specs.Sets.{has, insert}
use Rattle.hx_board.proofs.SetLaws.{has-empty, has-insert_same, has-insert_other, has-insert_cases, same_set}
use Rattle.hx_tree.specs.Answers.{AreInOrder}

-- a list that rises still does with a number more that is greater than all of its numbers
pub increasing-push : (numbers : List ℕ) (number : ℕ) → IsStrictlyIncreasing numbers → ((n : ℕ) → Contains numbers n → n < number)
    → IsStrictlyIncreasing (numbers ++ number ∷ [])
increasing-push numbers number rises below k less = ⊎_elim inside at_end (cases_lt (k + 1) (length numbers))
  where
    inside : k + 1 < length numbers → get_or (numbers ++ number ∷ []) k 0 < get_or (numbers ++ number ∷ []) (k + 1) 0
    inside small =
        let here : k < length numbers = omega arith in
        rw (get_or_append_left numbers (number ∷ []) 0 k here, get_or_append_left numbers (number ∷ []) 0 (k + 1) small) (rises k small)

    at_end : length numbers ≤ k + 1 → get_or (numbers ++ number ∷ []) k 0 < get_or (numbers ++ number ∷ []) (k + 1) 0
    at_end large =
        let last : k + 1 ≡ length numbers = omega (arith, length-append numbers (number ∷ [])) in
        let here : k < length numbers = omega arith in
        rw (get_or_append_left numbers (number ∷ []) 0 k here, last, get_or-append_seam numbers number [] 0)
        (below (get_or numbers k 0) (Contains-get_or numbers k 0 here))

-- one of the first cells of the list
pub record IsTaken (cells : List ℕ) (count cell : ℕ) : Type 0 where
  pub place : ℕ
  pub before : place < count
  pub at : get_or cells place cell ≡ cell

-- the first cells of the list rise, they are the members of a set, and the last of them comes just before an index
pub record AreTaken (cells : List ℕ) (count taken next : ℕ) : Type 0 where
  pub rise : (k : ℕ) → k + 1 < count → get_or cells k 0 < get_or cells (k + 1) 0
  pub none : count ≡ 0 → next ≡ 0
  pub last : (k : ℕ) → k + 1 ≡ count → next ≡ get_or cells k 0 + 1
  pub members : (cell : ℕ) → (has taken cell ≡ true) ↔ IsTaken cells count cell

-- a list is in order for two facts alike, where both hold of the same cells
pub same_kind : (Fact Other : ℕ → Type 0) (cells : List ℕ) → ((cell : ℕ) → Fact cell ↔ Other cell) → AreInOrder Fact cells
    → AreInOrder Other cells
same_kind Fact Other cells same in_order = record {
  each = λ cell is. in_order.each cell ((same cell).1 is);
  only = λ k d less. (same _).0 (in_order.only k d less);
  in_order = in_order.in_order;
}

pub none_taken : (cells : List ℕ) → AreTaken cells 0 0 0
none_taken cells = record {
  rise = λ k less. absurd (omega arith);
  none = λ e. refl;
  last = λ k e. absurd (omega arith);
  members = λ cell. (λ member. absurd (false≢true (sym (has-empty cell) ∙ member)), λ taken. absurd (omega (arith, taken.before)));
}

module _ (cells : List ℕ) (count taken next cell : ℕ) (before : AreTaken cells count taken next)
    (at : (d : ℕ) → get_or cells count d ≡ cell) where
  rise_more : next ≤ cell → (k : ℕ) → k + 1 < count + 1 → get_or cells k 0 < get_or cells (k + 1) 0
  rise_more rises k less =
      ⊎_elim
      (λ inside. before.rise k inside)
      (λ (from : count ≤ k + 1). let e : k + 1 ≡ count = omega arith in rw (e, at 0) (omega (arith, before.last k e)))
      (cases_lt (k + 1) count)

  last_more : (k : ℕ) → k + 1 ≡ count + 1 → cell + 1 ≡ get_or cells k 0 + 1
  last_more k e = let same : k ≡ count = omega arith in rw (same, at 0) refl

  member_taken : (n : ℕ) → has (insert taken cell) n ≡ true → IsTaken cells (count + 1) n
  member_taken n member =
      ⊎_elim
      (λ e. record { place = count; before = omega arith; at = at n ∙ sym e })
      (λ old. let was = (before.members n).0 old in record { place = was.place; before = omega (arith, was.before); at = was.at })
      (has-insert_cases taken cell n member)

  taken_member : (n : ℕ) → IsTaken cells (count + 1) n → has (insert taken cell) n ≡ true
  taken_member n is =
      ⊎_elim
      (λ inside. has-insert_other taken cell n ((before.members n).1 (record { place = is.place; before = inside; at = is.at })))
      (λ from. let last : is.place ≡ count = omega (arith, is.before) in
      let e : n ≡ cell = sym (rw last at is.at) ∙ at n in rw e (has-insert_same taken cell))
      (cases_lt is.place count)

  pub one_more_taken : next ≤ cell → AreTaken cells (count + 1) (insert taken cell) (cell + 1)
  one_more_taken rises = record {
    rise = rise_more rises;
    none = λ e. absurd (omega arith);
    last = last_more;
    members = λ n. (member_taken n, taken_member n);
  }

  -- a cell below the index that may come next
  pub out_of_order : (Fact : ℕ → Type 0) → count < length cells → cell < next → ¬ AreInOrder Fact cells
  out_of_order Fact less falls in_order =
      ⊎_elim
      (λ some. let k : ℕ = count - 1 in
      let e : k + 1 ≡ count = omega arith in
      let rises : get_or cells k 0 < cell = rw (e, at 0) at (in_order.in_order k (omega arith)) in
      omega (arith, before.last k e))
      (λ first. let none = before.none (omega arith) in omega arith)
      (cases_lt 0 count)

-- the set of the whole list is the wanted one exactly where the list is in order
module _ (cells : List ℕ) (count taken next set : ℕ) (before : AreTaken cells count taken next) (whole : count ≡ length cells) where
  taken_each : taken ≡ set → (cell : ℕ) → has set cell ≡ true → Contains cells cell
  taken_each same cell member =
      let is = (before.members cell).0 (rw same member) in (is.place, omega (arith, is.before), is.at)

  taken_only : taken ≡ set → All (λ cell. has set cell ≡ true) cells
  taken_only same k d less =
      rw same at ((before.members (get_or cells k d)).1
      (record { place = k; before = omega arith; at = get_or_default cells k (get_or cells k d) d less }))

  all_members : AreInOrder (λ cell. has set cell ≡ true) cells → (cell : ℕ) → has taken cell ≡ true → has set cell ≡ true
  all_members in_order cell member =
      let is = (before.members cell).0 member in rw is.at at (in_order.only is.place cell (omega (arith, is.before)))

  each_member : AreInOrder (λ cell. has set cell ≡ true) cells → (cell : ℕ) → has set cell ≡ true → has taken cell ≡ true
  each_member in_order cell member =
      let found = in_order.each cell member in
      (before.members cell).1 (record { place = found.0; before = omega (arith, found.1); at = found.2 })

  pub all_taken : (taken ≡ set) ↔ AreInOrder (λ cell. has set cell ≡ true) cells
  all_taken = (
    (λ same. record { each = taken_each same; only = taken_only same; in_order = λ k less. before.rise k (omega arith) }),
    (λ in_order. same_set taken set (λ cell. both_ways _ _ (all_members in_order cell) (each_member in_order cell))),
  )
