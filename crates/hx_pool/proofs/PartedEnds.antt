-- What came of the work at a place, and the ends of the workers whose seats stand in two lists, where both lists get
-- one more seat.
use Rattle.std.proofs.Common.{◌≡◌, ℕ, ◌<◌, List, [], ◌∷◌, ◌++◌, length, refl, sym, subst, All, Some}
use Rattle.std.specs.Prelude.{slice_get, Result}
use Rattle.std.proofs.lemmas.List.Elements.{All-pop, All-push, All-weaker}
use Rattle.hx_board.proofs.ListLaws.{get-push_before, get-push_last}
use Rattle.hx_tree.specs.declared.nodes.Node.{Node}
use Rattle.hx_count.specs.Seats.{Origin, Seat, own}
use Rattle.hx_share.specs.Readers.{Origin as BookOrigin, Reader, sight_of}
use Rattle.hx_limits.specs.declared.ran_out.RanOut.{RanOut}
use Rattle.hx_pool.specs.Ends.{EndsSpent}
use Rattle.hx_pool.specs.declared.seats.Done.{Done}
use Rattle.hx_pool.specs.declared.seats.Place.{Place}
use Rattle.hx_pool.specs.declared.seats.Place.TheVariants.{After}
use Rattle.hx_pool.specs.Seats.{HasTried, IsAfter, IsDone, IsEndedBy}
use Rattle.hx_pool.specs.Parts.{IsEndOfSome, HaveAllTried}

-- what came of the work at a place
pub after-done : {F : Type 0} (proved : List Node → F → Type 0) (tried : Type 0) (book : BookOrigin) (counts : Origin)
    (place : Place F) (done : Done F) → place ≡ After done
    → IsAfter proved tried book counts place → IsDone proved tried book counts done
after-done proved tried book counts place done same is = subst (IsAfter proved tried book counts) same is

module _ {F : Type 0} (proved : List Node → F → Type 0) (books : List Reader) (counts : List Seat) (book : Reader) (seat : Seat)
  where
    end-more : (end : Result F RanOut) → IsEndOfSome proved books counts end
        → IsEndOfSome proved (books ++ book ∷ []) (counts ++ seat ∷ []) end
    end-more end some = record {
      place = some.place;
      book = some.book;
      seat = some.seat;
      book_there = get-push_before books book some.place some.book some.book_there;
      seat_there = get-push_before counts seat some.place some.seat some.seat_there;
      ended = some.ended;
    }

    end-last : (end : Result F RanOut) → length books ≡ length counts → IsEndedBy proved (sight_of book) seat end
        → IsEndOfSome proved (books ++ book ∷ []) (counts ++ seat ∷ []) end
    end-last end same ended = record {
      place = length books;
      book = book;
      seat = seat;
      book_there = get-push_last books book;
      seat_there = subst (λ (n : ℕ). slice_get (counts ++ seat ∷ []) n ≡ Some seat) (sym same) (get-push_last counts seat);
      ended = ended;
    }

    pub ends-more : (ends : List (Result F RanOut)) (end : Result F RanOut) → length books ≡ length counts
        → All (IsEndOfSome proved books counts) ends → IsEndedBy proved (sight_of book) seat end
        → All (IsEndOfSome proved (books ++ book ∷ []) (counts ++ seat ∷ [])) (ends ++ end ∷ [])
    ends-more ends end same all ended = All-push (IsEndOfSome proved (books ++ book ∷ []) (counts ++ seat ∷ [])) ends end
        (All-weaker (IsEndOfSome proved books counts)
        (IsEndOfSome proved (books ++ book ∷ []) (counts ++ seat ∷ [])) end-more ends all)
        (end-last end same ended)

pub tried-more : {F : Type 0} (tried : Type 0) (counts : List Seat) (seat : Seat) (ends : List (Result F RanOut))
    (end : Result F RanOut) → HaveAllTried tried counts ends → HasTried tried seat end → HaveAllTried tried (counts ++ seat ∷ []) (ends ++ end ∷ [])
tried-more tried counts seat ends end before last spent = All-push (λ (s : Seat). 0 < (own s).granted → tried) counts seat
    (before (All-pop EndsSpent _ ends (Some end) refl spent).0)
    (last (All-pop EndsSpent _ ends (Some end) refl spent).1)
