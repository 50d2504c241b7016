-- What the end of one worker's work says of its list and its seat it says of the book and of the closed counts.
use Rattle.std.proofs.Common.{◌≡◌, ℕ, ◌<◌, List, [], ◌∷◌, ◌∙◌, refl, subst, Any, true, arith}
use Rattle.hx_board.specs.declared.colours.Colour.{Colour}
use Rattle.hx_board.specs.Positions.{Board}
use Rattle.hx_board.specs.Graph.{HasNoChain}
use Rattle.hx_tree.specs.declared.nodes.Node.{Node}
use Rattle.hx_book.specs.Entries.{Contents}
use Rattle.hx_count.specs.Seats.{Seat, own}
use Rattle.hx_worker.specs.declared.ended.Ended.{Ended}
use Rattle.hx_worker.specs.declared.ended.Ended.TheVariants.{Proved, Spent, NoSlots, Memory}
use Rattle.hx_worker.specs.Ends.{IsEnded, found_of, EndsSpent as StopsSpent}
use Rattle.hx_limits.specs.declared.settings.Settings.{Settings}
use Rattle.hx_limits.specs.Causes.{IsOutOfSlots}
use Rattle.hx_pool.specs.Ends.{EndsSpent}
use Rattle.hx_pool.specs.Searches.{IsClosedEnd}
use Rattle.hx_solve.specs.Searches.{IsProofOf, sight_of}

pub lone-closed : (settings : Settings) (board : Board) (mover : Colour) (book : Contents) (seat : Seat) (granted : ℕ) (end : Ended)
    → book.slots ≡ settings.slots → seat.made.limits.budget ≡ settings.budget
    → (Any (λ (s : Seat). (own s).refused ≡ true) (seat ∷ []) → granted ≡ settings.budget)
    → IsEnded (sight_of book) seat board mover end
    → IsClosedEnd (IsProofOf board mover) book.nodes granted settings (found_of end)
lone-closed settings board mover book seat granted (Proved index winner) slots budget full is = is
lone-closed settings board mover book seat granted (Spent taken) slots budget full is =
    (is.budget ∙ budget, full (0, seat, omega arith, refl, is.refused))
lone-closed settings board mover book seat granted (NoSlots refusal) slots budget full is =
    subst (λ (n : ℕ). IsOutOfSlots book.nodes n refusal) slots is
lone-closed settings board mover book seat granted Memory slots budget full is = tt

-- where a unit is wanting all were granted, and to the only seat
pub lone-no_chain : (settings : Settings) (board : Board) (mover : Colour) (nodes : List Node) (seat : Seat) (granted : ℕ) (end : Ended)
    → granted ≡ (own seat).granted → (StopsSpent end → 0 < (own seat).granted → HasNoChain board)
    → IsClosedEnd (IsProofOf board mover) nodes granted settings (found_of end)
    → EndsSpent (found_of end) → 0 < settings.budget → HasNoChain board
lone-no_chain settings board mover nodes seat granted (Proved index winner) all none is spent some = absurd spent
lone-no_chain settings board mover nodes seat granted (Spent taken) all none is spent some = none tt (omega (arith, all, is.1, some))
lone-no_chain settings board mover nodes seat granted (NoSlots refusal) all none is spent some = absurd spent
lone-no_chain settings board mover nodes seat granted Memory all none is spent some = absurd spent
