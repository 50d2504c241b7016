-- A look for a position and then for the turned one, with one mover, in a list of nodes that only grows.
use Rattle.std.specs.Prelude.{List, Bool, true, false, Option, MatchOption}
use Rattle.hx_board.specs.declared.colours.Colour.{Colour}
use Rattle.hx_board.specs.Positions.{Board}
use Rattle.hx_turn.specs.Turned.{IsTurned}
use Rattle.hx_tree.specs.declared.nodes.Node.{Node}
use Rattle.hx_tree.specs.declared.entries.Found.{Found}
use Rattle.hx_tree.specs.Entries.{HasNoEntry, IsFirstFound, WasSeen}
use Rattle.hx_book.specs.declared.either.Either.{Either}

-- some front of the new list, with the old one at its own front, has no entry of the position and mover
abbrev pub WasMissed : List Node → List Node → Board → Colour → Type 0
WasMissed old new board mover = WasSeen (λ nodes. HasNoEntry nodes board mover) old new

-- the position was missed, and then the turned one was found
pub record IsTurnedFound (old new : List Node) (board : Board) (mover : Colour) (found : Found) : Type 0 where
  pub missed : WasMissed old new board mover
  pub turned : Board
  pub is_turned : IsTurned board turned
  pub first : IsFirstFound new turned mover found

-- the position was missed, and then there was no entry of the turned one
pub record IsNeitherFound (old new : List Node) (board : Board) (mover : Colour) : Type 0 where
  pub missed : WasMissed old new board mover
  pub turned : Board
  pub is_turned : IsTurned board turned
  pub none : HasNoEntry new turned mover

-- the first entry of the position, or else of the turned one
abbrev pub FoundAs : Bool → List Node → List Node → Board → Colour → Found → Type 0
FoundAs false old new board mover found = IsFirstFound new board mover found
FoundAs true old new board mover found = IsTurnedFound old new board mover found

-- what is found, and nothing only where neither is
abbrev pub FindsEither : List Node → List Node → Board → Colour → Option Either → Type 0
FindsEither old new board mover result = MatchOption result
    (IsNeitherFound old new board mover)
    (λ either. FoundAs either.turned old new board mover either.found)
