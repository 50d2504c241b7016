-- What an answer says of whether a live link decides a position.
use Rattle.std.specs.Prelude.{ℕ}
use Rattle.hx_board.specs.declared.colours.Colour.{Colour}
use Rattle.hx_linkset.specs.States.{Standing}
use Rattle.hx_linkset.specs.LiveOf.{Decides}
use Rattle.hx_reach.specs.declared.decisions.Reached.{Reached}
use Rattle.hx_reach.specs.declared.decisions.Reached.TheVariants.{Decided, Open}

-- what `decided` answers of the set
abbrev pub IsReached : Standing → Colour → Reached → Type 0
IsReached set to_move (Decided place) = Decides set to_move place
IsReached set to_move Open = (place : ℕ) → Decides set to_move place → ⊥
