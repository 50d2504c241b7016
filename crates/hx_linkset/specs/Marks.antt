-- Marks on places: a number for each place, 1 where it is marked. These words are for the functions inside the crate
-- alone.
use Rattle.std.specs.Prelude.{◌≡◌, ℕ, ◌<◌, ◌≤◌, List, length, slice_index, ◌⊎◌}

-- the place is marked
abbrev pub IsMarked : List ℕ → ℕ → Type 0
IsMarked marks place = slice_index marks place ≡ 1

-- so many places, none of them marked
pub record AreUnmarked (count : ℕ) (marks : List ℕ) : Type 0 where
  pub long : length marks ≡ count
  pub none : (place : ℕ) → IsMarked marks place → ⊥

-- the places that have the property are marked too, and no others
pub record MarksMore (Has : ℕ → Type 0) (old new : List ℕ) : Type 0 where
  pub long : length new ≡ length old
  pub stay : (place : ℕ) → IsMarked old place → IsMarked new place
  pub each : (place : ℕ) → Has place → IsMarked new place
  pub only : (place : ℕ) → IsMarked new place → IsMarked old place ⊎ Has place

-- of the marked places below the bound the last
pub record IsLastMarkBelow (marks : List ℕ) (bound place : ℕ) : Type 0 where
  pub below : place < bound
  pub marked : IsMarked marks place
  pub last : (other : ℕ) → place < other → other < bound → IsMarked marks other → ⊥

-- of the marked places from the bound on the first
pub record IsFirstMarkFrom (marks : List ℕ) (bound place : ℕ) : Type 0 where
  pub from : bound ≤ place
  pub marked : IsMarked marks place
  pub first : (other : ℕ) → bound ≤ other → other < place → IsMarked marks other → ⊥
