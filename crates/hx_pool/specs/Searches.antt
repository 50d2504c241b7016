-- What a search comes to, when the book and the counts are closed.
use Rattle.std.specs.Prelude.{◌≡◌, ◌<◌, ℕ, List, Result, Ok, Err}
use Rattle.hx_tree.specs.declared.nodes.Node.{Node}
use Rattle.hx_book.specs.Entries.{Contents, IsBook}
use Rattle.hx_limits.specs.declared.ran_out.RanOut.{RanOut}
use Rattle.hx_limits.specs.declared.ran_out.RanOut.TheVariants.{Budget, Slots, Memory}
use Rattle.hx_limits.specs.declared.settings.Settings.{Settings}
use Rattle.hx_limits.specs.Causes.{IsOutOfSlots}
use Rattle.hx_pool.specs.Ends.{EndsSpent}

-- what an end says of the closed book's nodes, and of how many units were granted in all
abbrev pub IsClosedEnd : {F : Type 0} → (List Node → F → Type 0) → List Node → ℕ → Settings → Result F RanOut → Type 0
IsClosedEnd proved nodes granted settings (Ok found) = proved nodes found
IsClosedEnd proved nodes granted settings (Err (Budget taken)) =
    (taken ≡ settings.budget) × (granted ≡ settings.budget)
IsClosedEnd proved nodes granted settings (Err (Slots refusal)) = IsOutOfSlots nodes settings.slots refusal
IsClosedEnd proved nodes granted settings (Err Memory) = Unit {0}

-- the closed book has the slots of the settings, and the end says what it should of the book and of how many units were
-- granted; where units are wanting though there were some, this was found
pub record IsSearchEnd {F : Type 0} (proved : List Node → F → Type 0) (tried : Type 0) (settings : Settings)
    (book : Contents) (granted : ℕ) (end : Result F RanOut) : Type 0 where
  pub is_book : IsBook book
  pub slots : book.slots ≡ settings.slots
  pub ended : IsClosedEnd proved book.nodes granted settings end
  pub has_tried : EndsSpent end → 0 < settings.budget → tried
