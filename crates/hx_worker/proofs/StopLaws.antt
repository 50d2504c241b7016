-- An entry that was found, or why a search stopped: as the end of the work, and as what a worker comes back with.
use Rattle.std.proofs.Common.{Result, Ok, Err, IfOk, IfErr}
use Rattle.hx_board.specs.declared.colours.Colour.{Colour}
use Rattle.hx_board.specs.Positions.{Board}
use Rattle.hx_tree.specs.Entries.{IsFirstFound}
use Rattle.hx_tree.specs.declared.entries.Found.{Found}
use Rattle.hx_book.specs.Sights.{Sight}
use Rattle.hx_count.specs.Seats.{Seat}
use Rattle.hx_limits.specs.declared.ran_out.RanOut.{RanOut}
use Rattle.hx_limits.specs.declared.ran_out.RanOut.TheVariants.{Budget, Slots, Memory}
use Rattle.hx_limits.specs.Causes.{IsStopped, LacksUnit}
use Rattle.hx_pool.specs.Ends.{EndsSpent as ComesSpent}
use Rattle.hx_pool.specs.Seats.{IsEndedBy}
use Rattle.hx_worker.specs.declared.ended.Ended.{Ended}
use Rattle.hx_worker.specs.declared.ended.Ended.TheVariants.{Proved, Spent, NoSlots, Memory as NoMemory}
use Rattle.hx_worker.specs.Ends.{IsEnded, EndsSpent, found_of, ended_of}

-- an entry that was found, or why the search stopped, as the end of the work
pub stopped-ended : (sight : Sight) (seat : Seat) (board : Board) (mover : Colour) (found : Result Found RanOut)
    → IfOk found (IsFirstFound sight.list board mover) → IfErr found (IsStopped sight seat)
    → IsEnded sight seat board mover (ended_of found)
stopped-ended sight seat board mover (Ok found) first stopped = first
stopped-ended sight seat board mover (Err (Budget taken)) first stopped = stopped
stopped-ended sight seat board mover (Err (Slots refusal)) first stopped = stopped
stopped-ended sight seat board mover (Err Memory) first stopped = stopped

-- where the work ended for want of a unit, what holds of a search that lacks one
pub spent-lacks : (Told : Type 0) (found : Result Found RanOut) → IfErr found (λ why. LacksUnit why → Told) → EndsSpent (ended_of found) → Told
spent-lacks Told (Ok found) told spent = absurd spent
spent-lacks Told (Err (Budget taken)) told spent = told tt
spent-lacks Told (Err (Slots refusal)) told spent = absurd spent
spent-lacks Told (Err Memory) told spent = absurd spent

-- the end of the work, as what a worker comes back with
pub ended-found : (sight : Sight) (seat : Seat) (board : Board) (mover : Colour) (ended : Ended)
    → IsEnded sight seat board mover ended
    → IsEndedBy (λ nodes. IsFirstFound nodes board mover) sight seat (found_of ended)
ended-found sight seat board mover (Proved index winner) is = is
ended-found sight seat board mover (Spent taken) is = is
ended-found sight seat board mover (NoSlots refusal) is = is
ended-found sight seat board mover NoMemory is = is

pub found-spent : (ended : Ended) → ComesSpent (found_of ended) → EndsSpent ended
found-spent (Proved index winner) spent = spent
found-spent (Spent taken) spent = spent
found-spent (NoSlots refusal) spent = spent
found-spent NoMemory spent = spent
