-- What a worker's end says of its seats it says of the closed book and of the closed counts.
use Rattle.std.proofs.Common.{◌≡◌, ℕ, ◌<◌, ◌≤◌, List, [], ◌∷◌, length, sym, ap, ◌∙◌, subst, All, Any, Contains, true, arith}
use mathlib.Core.Logic.{dite}
use native.Mathlib.Decide.{dec_lt}
use Rattle.std.specs.Prelude.{Result, Ok, Err}
use Rattle.std.specs.List.{sum_by}
use Rattle.std.proofs.lemmas.List.Sums.{sum_by-cons}
use Rattle.std.proofs.lemmas.List.Elements.{All-head, All-tail, All-weaker, All-contains}
use Rattle.hx_tree.specs.declared.nodes.Node.{Node}
use Rattle.hx_tree.specs.Entries.{Extends}
use Rattle.hx_book.specs.Entries.{Contents, IsBook}
use Rattle.hx_count.specs.Seats.{Origin, Seat, own}
use Rattle.hx_share.specs.Readers.{Origin as BookOrigin, Reader, sight_of}
use Rattle.hx_limits.specs.declared.ran_out.RanOut.{RanOut}
use Rattle.hx_limits.specs.declared.ran_out.RanOut.TheVariants.{Budget, Slots, Memory}
use Rattle.hx_limits.specs.declared.settings.Settings.{Settings}
use Rattle.hx_limits.specs.Causes.{IsOutOfSlots}
use Rattle.hx_pool.specs.Ends.{EndsSpent}
use Rattle.hx_pool.specs.Seats.{IsEndedBy}
use Rattle.hx_pool.specs.Parts.{IsEndOfSome, HaveAllTried}
use Rattle.hx_pool.specs.Searches.{IsClosedEnd}
use Rattle.hx_pool.proofs.LaterLists.{all-get, any-get, no_longer}
use Rattle.hx_pool.proofs.ForemostEnds.{IsBeforeAll, all-spent}

-- the closed book and the closed counts, and the seats that they were closed with
pub record AreClosed (settings : Settings) (books : List Reader) (counts : List Seat) (nodes : List Node) (granted : ℕ) : Type 0 where
  pub few : length nodes ≤ settings.slots
  pub slots : All (λ (s : Reader). s.made.slots ≡ settings.slots) books
  pub seen : All (λ (s : Reader). Extends s.seen nodes) books
  pub budgets : All (λ (s : Seat). s.made.limits.budget ≡ settings.budget) counts
  pub full : Any (λ (s : Seat). (own s).refused ≡ true) counts → granted ≡ settings.budget

-- what is said of a list of proofs is true of each list that goes on from it
abbrev pub Stays : (F : Type 0) → (List Node → F → Type 0) → Type 0
Stays F proved = (old new : List Node) (found : F) → Extends old new → proved old found → proved new found

module _ {F : Type 0} (proved : List Node → F → Type 0) (stays : Stays F proved) (settings : Settings) (books : List Reader)
    (counts : List Seat) (nodes : List Node) (granted : ℕ) where
  closed : AreClosed settings books counts nodes granted → (end : Result F RanOut) (some : IsEndOfSome proved books counts end)
      → IsEndedBy proved (sight_of some.book) some.seat end → IsClosedEnd proved nodes granted settings end
  closed are (Ok found) some is =
      stays some.book.seen nodes found
      (all-get (λ (s : Reader). Extends s.seen nodes) books some.place some.book are.seen some.book_there) is
  closed are (Err (Budget taken)) some is = (
    is.budget ∙ all-get (λ (s : Seat). s.made.limits.budget ≡ settings.budget) counts some.place some.seat are.budgets some.seat_there,
    are.full (any-get (λ (s : Seat). (own s).refused ≡ true) counts some.place some.seat some.seat_there is.refused),
  )
  closed are (Err (Slots refusal)) some is =
      let same_slots : some.book.made.slots ≡ settings.slots =
      all-get (λ (s : Reader). s.made.slots ≡ settings.slots) books some.place some.book are.slots some.book_there in
      let same_list : nodes ≡ some.book.seen = no_longer some.book.seen nodes
      (all-get (λ (s : Reader). Extends s.seen nodes) books some.place some.book are.seen some.book_there)
      (omega (arith, are.few, is.full, same_slots)) in
      subst (λ (list : List Node). IsOutOfSlots list settings.slots refusal) (sym same_list)
      (subst (λ (slots : ℕ). IsOutOfSlots some.book.seen slots refusal) same_slots is)
  closed are (Err Memory) some is = tt

  pub end-closed : AreClosed settings books counts nodes granted → (end : Result F RanOut) → IsEndOfSome proved books counts end
      → IsClosedEnd proved nodes granted settings end
  end-closed are end some = closed are end some some.ended

-- one of the ends, when the book and the counts are closed with all seats
pub contained-closed : {F : Type 0} (proved : List Node → F → Type 0) → Stays F proved → (settings : Settings) (shared : BookOrigin)
    (made : Origin) (books : List Reader) (counts : List Seat) (ends : List (Result F RanOut)) (end : Result F RanOut)
    (book : Contents) (granted : ℕ) → shared.slots ≡ settings.slots → made.limits.budget ≡ settings.budget
    → All (λ (s : Reader). s.made ≡ shared) books → All (λ (s : Seat). s.made ≡ made) counts
    → All (IsEndOfSome proved books counts) ends → Contains ends end
    → IsBook book → book.slots ≡ shared.slots → All (λ (s : Reader). Extends s.seen book.nodes) books
    → (Any (λ (s : Seat). (own s).refused ≡ true) counts → granted ≡ made.limits.budget)
    → IsClosedEnd proved book.nodes granted settings end
contained-closed proved stays settings shared made books counts ends end book granted same_slots same_budget same_shared same_made all one
    is_book book_slots seen refused =
    end-closed proved stays settings books counts book.nodes granted
    (record {
      few = omega (arith, is_book.held, book_slots, same_slots);
      slots = All-weaker (λ (s : Reader). s.made ≡ shared) (λ (s : Reader). s.made.slots ≡ settings.slots)
          (λ s same. ap (λ (o : BookOrigin). o.slots) same ∙ same_slots) books same_shared;
      seen = seen;
      budgets = All-weaker (λ (s : Seat). s.made ≡ made) (λ (s : Seat). s.made.limits.budget ≡ settings.budget)
          (λ s same. ap (λ (o : Origin). o.limits.budget) same ∙ same_budget) counts same_made;
      full = λ some. refused some ∙ same_budget;
    })
    end (All-contains (IsEndOfSome proved books counts) ends end all one)

-- ---- want of a unit

abbrev granted_to : Seat → ℕ
granted_to s = (own s).granted

-- where all together were granted a unit, some seat was
some-seat : (Claim : Type 0) (seats : List Seat) → All (λ (s : Seat). 0 < granted_to s → Claim) seats → 0 < sum_by granted_to seats → Claim
some-seat Claim [] each some = absurd (omega (arith, some))
some-seat Claim (s ∷ seats) each some = dite (dec_lt 0 (granted_to s))
    (λ granted. All-head (λ (t : Seat). 0 < granted_to t → Claim) s seats each granted)
    (λ none. some-seat Claim seats (All-tail (λ (t : Seat). 0 < granted_to t → Claim) s seats each)
    (omega (arith, none, some, sum_by-cons granted_to s seats)))

all-granted : {F : Type 0} (proved : List Node → F → Type 0) (nodes : List Node) (granted : ℕ) (settings : Settings)
    (end : Result F RanOut) → IsClosedEnd proved nodes granted settings end
    → EndsSpent end → granted ≡ settings.budget
all-granted proved nodes granted settings (Ok found) is spent = absurd spent
all-granted proved nodes granted settings (Err (Budget taken)) is spent = is.1
all-granted proved nodes granted settings (Err (Slots refusal)) is spent = absurd spent
all-granted proved nodes granted settings (Err Memory) is spent = absurd spent

-- where units are wanting though there were some, a worker that had one has found what it was to find
pub tried-closed : {F : Type 0} (proved : List Node → F → Type 0) (tried : Type 0) (settings : Settings) (counts : List Seat)
    (ends : List (Result F RanOut)) (end : Result F RanOut) (nodes : List Node) (granted : ℕ)
    → HaveAllTried tried counts ends → IsBeforeAll end ends → IsClosedEnd proved nodes granted settings end
    → granted ≡ sum_by granted_to counts
    → EndsSpent end → 0 < settings.budget → tried
tried-closed proved tried settings counts ends end nodes granted all before is sum spent some =
    some-seat tried counts (all (all-spent end ends spent before))
    (omega (arith, some, sum, all-granted proved nodes granted settings end is spent))
