-- How a worker's work ends.
use Rattle.std.specs.Prelude.{◌≡◌, ℕ, Bool, true, false, List, length, ◌⊎◌, Result, Ok, Err}
use Rattle.hx_board.specs.declared.colours.Colour.{Colour}
use Rattle.hx_board.specs.Positions.{Board}
use Rattle.hx_board.specs.Graph.{HasNoChain}
use Rattle.hx_tree.specs.declared.nodes.Node.{Node}
use Rattle.hx_tree.specs.Entries.{IsFirstFound}
use Rattle.hx_tree.specs.declared.entries.Found.{Found}
use Rattle.hx_turn.specs.Turned.{IsTurned}
use Rattle.hx_book.specs.Sights.{Sight}
use Rattle.hx_book.specs.EitherEntry.{WasMissed}
use Rattle.hx_linkset.specs.States.{Standing}
use Rattle.hx_linkset.specs.declared.limits.TheConstants.{MOST_LINKS}
use Rattle.hx_count.specs.Seats.{Seat}
use Rattle.hx_search.specs.Closed.{IsClosed}
use Rattle.hx_linkset.specs.LiveOf.{Decides}
use Rattle.hx_limits.specs.declared.ran_out.RanOut.{RanOut}
use Rattle.hx_limits.specs.declared.ran_out.RanOut.TheVariants.{Budget, Slots, Memory as NoMemory}
use Rattle.hx_limits.specs.Causes.{IsOutOfSlots, IsSpent}
use Rattle.hx_worker.specs.declared.ended.Ended.{Ended}
use Rattle.hx_worker.specs.declared.ended.Ended.TheVariants.{Proved, Spent, NoSlots, Memory}

-- what an end says of what is seen of the list of proofs and of the seat, where the work was on this position and mover
abbrev pub IsEnded : Sight → Seat → Board → Colour → Ended → Type 0
IsEnded sight seat board mover (Proved index winner) =
    IsFirstFound sight.list board mover (record { index = index; winner = winner })
IsEnded sight seat board mover (Spent taken) = IsSpent seat taken
IsEnded sight seat board mover (NoSlots refusal) = IsOutOfSlots sight.list sight.slots refusal
IsEnded sight seat board mover Memory = Unit {0}

-- the entry that was found, or what ran out, by the end of the work
abbrev pub found_of : Ended → Result Found RanOut
found_of (Proved index winner) = Ok (record { index = index; winner = winner })
found_of (Spent taken) = Err (Budget taken)
found_of (NoSlots refusal) = Err (Slots refusal)
found_of Memory = Err NoMemory

-- the end of the work, by the entry that was found or what ran out
abbrev pub ended_of : Result Found RanOut → Ended
ended_of (Ok found) = Proved found.index found.winner
ended_of (Err (Budget taken)) = Spent taken
ended_of (Err (Slots refusal)) = NoSlots refusal
ended_of (Err NoMemory) = Memory

-- the work ended for want of a unit
abbrev pub EndsSpent : Ended → Type 0
EndsSpent (Proved index winner) = ⊥
EndsSpent (Spent taken) = Unit {0}
EndsSpent (NoSlots refusal) = ⊥
EndsSpent Memory = ⊥

-- the set is closed, or holds all the links that it can
abbrev pub IsThrough : Standing → Type 0
IsThrough set = IsClosed set ⊎ (length set.present.links ≡ MOST_LINKS)

-- a set that is through, and does not decide the position
pub record IsOpenSet (set : Standing) (mover : Colour) : Type 0 where
  pub through : IsThrough set
  pub open_set : (place : ℕ) → Decides set mover place → ⊥

-- neither the position nor the turned one had an entry when it was looked up
pub record WereUnlisted (old new : List Node) (board : Board) (mover : Colour) : Type 0 where
  pub missed : WasMissed old new board mover
  pub turned : Board
  pub is_turned : IsTurned board turned
  pub turned_missed : WasMissed old new turned mover

-- the position had no entry when it was looked up, and where the list is not plain the turned one had none either
abbrev pub WasUnlisted : Bool → List Node → List Node → Board → Colour → Type 0
WasUnlisted true old new board mover = WasMissed old new board mover
WasUnlisted false old new board mover = WereUnlisted old new board mover

-- the position is decided neither by a chain nor by the links of the sets, which were closed as far as that goes
pub record IsTried (board : Board) (mover : Colour) (black white : Standing) : Type 0 where
  pub no_chain : HasNoChain board
  pub black_open : IsOpenSet black mover
  pub white_open : IsOpenSet white mover
