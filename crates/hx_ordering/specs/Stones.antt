-- The stones that come in a visit: whose each is, and where.
use Rattle.std.specs.Prelude.{ℕ, List, [], ◌∷◌, flat_map, Option}
use Rattle.std.specs.declared.option.Option.TheVariants.{None, Some}
use Rattle.hx_board.specs.declared.colours.Colour.{Colour}
use Rattle.hx_board.specs.Colours.{other_of}
use Rattle.hx_inferior.specs.declared.fills.FillStep.{FillStep}
use Rattle.hx_inferior.specs.declared.fills.FillStep.TheVariants.{Other, Dead, Pair}
use Rattle.hx_fill.specs.declared.fills.Fill.{Fill}

-- the stone of the move that led to the position of a player to move, where one did
abbrev pub stones_of_move : Option ℕ → Colour → List (Colour × ℕ)
stones_of_move None mover = []
stones_of_move (Some cell) mover = (other_of mover, cell) ∷ []

-- the stones of a step, which are all of one player
abbrev pub stones_of_step : Colour → FillStep → List (Colour × ℕ)
stones_of_step colour (Other cell) = (colour, cell) ∷ []
stones_of_step colour (Dead cell) = (colour, cell) ∷ []
stones_of_step colour (Pair a b) = (colour, a) ∷ (colour, b) ∷ []

-- the stones of some steps of fill-in, one step after the other
abbrev pub stones_of_fills : List Fill → List (Colour × ℕ)
stones_of_fills fills = flat_map (λ fill. stones_of_step fill.colour fill.step) fills
