-- Why a search came to no answer: what has to be so where units, slots or memory ran out.
use Rattle.std.specs.Prelude.{◌≡◌, ℕ, List, true}
use Rattle.hx_tree.specs.declared.nodes.Node.{Node}
use Rattle.hx_tree.specs.Entries.{IsRefused}
use Rattle.hx_book.specs.Entries.{contents, IsBook}
use Rattle.hx_book.specs.Puts.{Refusal}
use Rattle.hx_book.specs.Sights.{Sight}
use Rattle.hx_count.specs.Seats.{Seat, own}
use Rattle.hx_limits.specs.declared.settings.Settings.{Settings}
use Rattle.hx_limits.specs.declared.ran_out.RanOut.{RanOut}
use Rattle.hx_limits.specs.declared.ran_out.RanOut.TheVariants.{Budget, Slots, Memory}

-- each slot is taken, the refusal tells how many these are, and no node is of the position and mover of the refused one
abbrev pub IsOutOfSlots : List Node → ℕ → Refusal → Type 0
IsOutOfSlots list slots refusal = IsRefused slots list refusal.node refusal.held list

-- the seat's worker was refused a unit, and the refusal carries the budget
pub record IsSpent (seat : Seat) (taken : ℕ) : Type 0 where
  pub refused : (own seat).refused ≡ true
  pub budget : taken ≡ seat.made.limits.budget

-- why a proof was not stored in a list of proofs that is seen so: no slot was left, or memory ran out
abbrev pub IsUnstored : Sight → RanOut → Type 0
IsUnstored sight (Budget taken) = ⊥
IsUnstored sight (Slots refusal) = IsOutOfSlots sight.list sight.slots refusal
IsUnstored sight Memory = Unit {0}

-- why a worker stopped that sees the list of proofs so and has this seat: it was refused a unit or a slot, or memory
-- ran out
abbrev pub IsStopped : Sight → Seat → RanOut → Type 0
IsStopped sight seat (Budget taken) = IsSpent seat taken
IsStopped sight seat (Slots refusal) = IsOutOfSlots sight.list sight.slots refusal
IsStopped sight seat Memory = Unit {0}

-- what a book with so many slots may hold, where each slot is taken and the refused proof's position and mover have no
-- entry
pub record FoundNoRoom (slots : ℕ) (refusal : Refusal) : Type 0 where
  pub nodes : List Node
  pub book : IsBook (contents slots nodes)
  pub out_of_slots : IsOutOfSlots nodes slots refusal

-- the refusal of a unit carries the budget, and the refusal of a proof is by a book in which it found no room
abbrev pub HasCause : Settings → RanOut → Type 0
HasCause settings (Budget taken) = taken ≡ settings.budget
HasCause settings (Slots refusal) = FoundNoRoom settings.slots refusal
HasCause settings Memory = Unit {0}

-- the units ran out
abbrev pub LacksUnit : RanOut → Type 0
LacksUnit (Budget taken) = Unit {0}
LacksUnit (Slots refusal) = ⊥
LacksUnit Memory = ⊥

-- memory ran out
abbrev pub LacksMemory : RanOut → Type 0
LacksMemory (Budget taken) = ⊥
LacksMemory (Slots refusal) = ⊥
LacksMemory Memory = Unit {0}

-- the settings of one worker alone
abbrev pub lone : ℕ → ℕ → Settings
lone budget slots = record { workers = 1; budget = budget; slots = slots }
