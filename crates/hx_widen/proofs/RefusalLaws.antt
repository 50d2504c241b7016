-- Why no proof of a position was stored is why no proof was stored.
use Rattle.std.proofs.Common.{Result, Ok, Err, IfErr}
use Rattle.hx_board.specs.declared.colours.Colour.{Colour}
use Rattle.hx_board.specs.Positions.{Board}
use Rattle.hx_book.specs.Sights.{Sight}
use Rattle.hx_limits.specs.declared.ran_out.RanOut.{RanOut}
use Rattle.hx_limits.specs.declared.ran_out.RanOut.TheVariants.{Budget, Slots, Memory}
use Rattle.hx_limits.specs.Causes.{IsUnstored}
use Rattle.hx_nodes.specs.Stored.{IsNotStored}

module _ (sight : Sight) (board : Board) (mover : Colour) where
  not_stored-unstored : (why : RanOut) → IsNotStored sight board mover why → IsUnstored sight why
  not_stored-unstored (Budget taken) is = is
  not_stored-unstored (Slots refusal) is = is.0
  not_stored-unstored Memory is = tt

  pub if_err-unstored : {A : Type 0} → (result : Result A RanOut) → IfErr result (IsNotStored sight board mover)
      → IfErr result (IsUnstored sight)
  if_err-unstored (Ok answer) is = tt
  if_err-unstored (Err why) is = not_stored-unstored why is
