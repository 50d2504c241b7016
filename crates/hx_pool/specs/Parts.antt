-- What the workers gave back, taken apart.
use Rattle.std.specs.Prelude.{◌≡◌, ◌<◌, ◌≤◌, ℕ, List, [], slice_get, vec_capacity, Result}
use Rattle.std.specs.List.{All}
use Rattle.std.specs.declared.option.Option.TheVariants.{Some}
use Rattle.hx_tree.specs.declared.nodes.Node.{Node}
use Rattle.hx_count.specs.Seats.{Seat, own}
use Rattle.hx_share.specs.Readers.{Reader, sight_of}
use Rattle.hx_limits.specs.declared.ran_out.RanOut.{RanOut}
use Rattle.hx_pool.specs.Ends.{EndsSpent}
use Rattle.hx_pool.specs.Seats.{IsEndedBy}
use Rattle.hx_pool.specs.declared.parts.Parts.{Parts}

-- nothing yet, and room for the parts of so many workers
pub record HasRoom {F : Type 0} (workers : ℕ) (parts : Parts F) : Type 0 where
  pub no_books : parts.books.items ≡ []
  pub no_counts : parts.counts.items ≡ []
  pub no_ends : parts.ends.items ≡ []
  pub room_for_books : workers ≤ vec_capacity parts.books
  pub room_for_counts : workers ≤ vec_capacity parts.counts
  pub room_for_ends : workers ≤ vec_capacity parts.ends

-- the end of the worker whose seats stand at some place
pub record IsEndOfSome {F : Type 0} (proved : List Node → F → Type 0) (books : List Reader) (counts : List Seat)
    (end : Result F RanOut) : Type 0 where
  pub place : ℕ
  pub book : Reader
  pub seat : Seat
  pub book_there : slice_get books place ≡ Some book
  pub seat_there : slice_get counts place ≡ Some seat
  pub ended : IsEndedBy proved (sight_of book) seat end

-- where all ended for want of a unit and some seat was granted one, its worker has found this
abbrev pub HaveAllTried : {F : Type 0} → Type 0 → List Seat → List (Result F RanOut) → Type 0
HaveAllTried tried counts ends = All EndsSpent ends → All (λ (seat : Seat). 0 < (own seat).granted → tried) counts
