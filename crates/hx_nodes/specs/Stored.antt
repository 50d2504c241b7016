-- What became of a proof that was to be stored.
use Rattle.std.specs.Prelude.{ℕ, Bool, true, false, List}
use Rattle.hx_board.specs.declared.colours.Colour.{Colour}
use Rattle.hx_board.specs.Positions.{Board}
use Rattle.hx_tree.specs.declared.nodes.Node.{Node}
use Rattle.hx_tree.specs.Entries.{IsOf, IsEntry}
use Rattle.hx_book.specs.Sights.{Sight}
use Rattle.hx_book.specs.EitherEntry.{WasMissed, IsNeitherFound}
use Rattle.hx_limits.specs.declared.ran_out.RanOut.{RanOut}
use Rattle.hx_limits.specs.declared.ran_out.RanOut.TheVariants.{Budget, Slots, Memory}
use Rattle.hx_limits.specs.Causes.{IsOutOfSlots}
use Rattle.hx_nodes.specs.declared.stored.Stored.{Stored}
use Rattle.hx_nodes.specs.declared.stored.Stored.TheVariants.{Done, Missing}

-- some node is of this position and mover
abbrev pub HasEntry : List Node → Board → Colour → Type 0
HasEntry list board mover = (place : ℕ) × IsEntry list board mover place

-- where it is done, the list has an entry of this position and mover
abbrev pub IsStored : List Node → Board → Colour → Stored → Type 0
IsStored list board mover Done = HasEntry list board mover
IsStored list board mover Missing = Unit {0}

-- why no node of this position and mover was stored in a list of proofs that is seen so: a slot was refused to one, or
-- memory ran out
abbrev pub IsNotStored : Sight → Board → Colour → RanOut → Type 0
IsNotStored sight board mover (Budget taken) = ⊥
IsNotStored sight board mover (Slots refusal) =
    IsOutOfSlots sight.list sight.slots refusal × IsOf board mover refusal.node
IsNotStored sight board mover Memory = Unit {0}

-- it is not memory that ran out
abbrev pub HadMemory : RanOut → Type 0
HadMemory (Budget taken) = Unit {0}
HadMemory (Slots refusal) = Unit {0}
HadMemory Memory = ⊥

-- where something is missing, it is for this cause
abbrev pub MissingFor : Type 0 → Stored → Type 0
MissingFor Cause Done = Unit {0}
MissingFor Cause Missing = Cause

-- neither the position nor the turned one was found, or in a plain list, where the turned one is not looked for, the
-- position was missed
abbrev pub LacksEither : Bool → List Node → List Node → Board → Colour → Type 0
LacksEither true old new board mover = WasMissed old new board mover
LacksEither false old new board mover = IsNeitherFound old new board mover
