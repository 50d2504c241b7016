-- A worker's seats, before its work and after it.
use Rattle.std.specs.Prelude.{◌≡◌, ◌<◌, List, Result, Ok, Err}
use Rattle.hx_tree.specs.declared.nodes.Node.{Node}
use Rattle.hx_book.specs.Sights.{Sight}
use Rattle.hx_count.specs.Machine.{HasNothing}
use Rattle.hx_count.specs.Seats.{Origin, Seat, own}
use Rattle.hx_share.specs.Readers.{Origin as BookOrigin, sight_of}
use Rattle.hx_limits.specs.declared.ran_out.RanOut.{RanOut}
use Rattle.hx_limits.specs.Causes.{IsStopped}
use Rattle.hx_pool.specs.Ends.{EndsSpent}
use Rattle.hx_pool.specs.declared.seats.Seats.{Seats}
use Rattle.hx_pool.specs.declared.seats.Done.{Done}
use Rattle.hx_pool.specs.declared.seats.Place.{Place}
use Rattle.hx_pool.specs.declared.seats.Place.TheVariants.{Before, Meanwhile, After}

-- seats of this book and of these counts, whose worker has nothing
pub record AreNewSeats (book : BookOrigin) (counts : Origin) (seats : Seats) : Type 0 where
  pub same_book : seats.book.made ≡ book
  pub same_counts : seats.counts.made ≡ counts
  pub nothing : HasNothing (own seats.counts)

-- what an end says of what a worker sees of the list and of its seat; where something was found, the errand says what
abbrev pub IsEndedBy : {F : Type 0} → (List Node → F → Type 0) → Sight → Seat → Result F RanOut → Type 0
IsEndedBy proved sight seat (Ok found) = proved sight.list found
IsEndedBy proved sight seat (Err why) = IsStopped sight seat why

-- a worker that was granted a unit and ended for want of another one has found this
abbrev pub HasTried : {F : Type 0} → Type 0 → Seat → Result F RanOut → Type 0
HasTried tried seat end = EndsSpent end → 0 < (own seat).granted → tried

-- seats of this book and of these counts, and what the end says of them
pub record IsDone {F : Type 0} (proved : List Node → F → Type 0) (tried : Type 0) (book : BookOrigin) (counts : Origin)
    (done : Done F) : Type 0 where
  pub same_book : done.book.made ≡ book
  pub same_counts : done.counts.made ≡ counts
  pub ended : IsEndedBy proved (sight_of done.book) done.counts done.end
  pub has_tried : HasTried tried done.counts done.end

-- ---- words for the functions inside the crate alone

-- a worker's place with its seats, before its work
abbrev pub IsBefore : {F : Type 0} → BookOrigin → Origin → Place F → Type 0
IsBefore book counts (Before seats) = AreNewSeats book counts seats
IsBefore book counts Meanwhile = ⊥
IsBefore book counts (After done) = ⊥

-- the place with what came of its work
abbrev pub IsAfter : {F : Type 0} → (List Node → F → Type 0) → Type 0 → BookOrigin → Origin → Place F → Type 0
IsAfter proved tried book counts (Before seats) = ⊥
IsAfter proved tried book counts Meanwhile = ⊥
IsAfter proved tried book counts (After done) = IsDone proved tried book counts done
