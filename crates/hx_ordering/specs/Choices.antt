-- What a visit does next.
use Rattle.std.specs.Prelude.{◌≡◌, ◌≢◌, ℕ, ◌⊎◌, List, [], Any, slice_get}
use Rattle.std.specs.declared.option.Option.TheVariants.{Some}
use Rattle.hx_board.specs.Colours.{other_of}
use Rattle.hx_board.specs.Positions.{IsEmpty, put}
use Rattle.hx_pn.specs.declared.proof_numbers.Numbers.{Numbers}
use Rattle.hx_pn.specs.Numbers.{phi_of, delta_of, HasReached, IsChosen, child_limit}
use Rattle.hx_turn.specs.Keys.{key_of}
use Rattle.hx_ordering.specs.Given.{AreGiven}
use Rattle.hx_ordering.specs.declared.children.Child.{Child}
use Rattle.hx_ordering.specs.declared.moves.Moves.{Moves}
use Rattle.hx_ordering.specs.declared.choices.Choice.{Choice}
use Rattle.hx_ordering.specs.declared.choices.Choice.TheVariants.{AllLose, Limit, Down}
use Rattle.hx_ordering.specs.declared.choices.Down.{Down as WayDown}
use Rattle.hx_ordering.specs.declared.situations.Situation.{Situation}

-- a move to an empty cell, with the key of the position after it
pub record IsChildOf (situation : Situation) (child : Child) : Type 0 where
  pub empty : IsEmpty situation.filled child.cell
  pub key : child.key ≡ key_of (put situation.filled situation.to_move child.cell) (other_of situation.to_move)

-- the cell of some move holds a stone
abbrev pub HasMoveToStone : Situation → Moves → Type 0
HasMoveToStone situation moves = Any (λ child. ¬ IsEmpty situation.filled child.cell) moves.children.items

-- the move of a way down is the one at this place of those at hand, and the way leads to the position after it, where
-- the opponent is to move, with this limit
pub record IsStep (situation : Situation) (moves : Moves) (place : ℕ) (until : Numbers) (down : WayDown) : Type 0 where
  pub same_place : down.place ≡ place
  pub there : slice_get moves.children.items place ≡ Some down.child
  pub empty : IsEmpty situation.filled down.child.cell
  pub next : down.start.here ≡ put situation.filled situation.to_move down.child.cell
  pub mover : down.start.to_move ≡ other_of situation.to_move
  pub moved : down.start.moved ≡ Some down.child.cell
  pub limit : down.start.limit ≡ until

-- the numbers that the moves give together
abbrev pub IsTogether : Moves → Numbers → Type 0
IsTogether moves numbers =
    (given : List Numbers)
    × (AreGiven moves.children.items given × (numbers ≡ record { phi = phi_of given; delta = delta_of given }))

-- a visit ends with the numbers that its moves give together, because they have come to its limit, or because the cell
-- of a move holds a stone
pub record IsEnd (situation : Situation) (moves : Moves) (given : List Numbers) (numbers : Numbers) : Type 0 where
  pub together : numbers ≡ record { phi = phi_of given; delta = delta_of given }
  pub because : HasReached situation.limit given ⊎ HasMoveToStone situation moves

-- a visit that has not come to its limit goes down to the move with the least delta, and as far as df-pn says
pub record IsWayDown (situation : Situation) (moves : Moves) (given : List Numbers) (down : WayDown) : Type 0 where
  pub numbers : Numbers
  pub below_limit : ¬ HasReached situation.limit given
  pub chosen : IsChosen given down.place numbers
  pub step : IsStep situation moves down.place (child_limit situation.limit given down.place numbers) down

-- what a visit does that has moves, which give these numbers
abbrev pub IsChoiceBy : Situation → Moves → List Numbers → Choice → Type 0
IsChoiceBy situation moves given AllLose = ⊥
IsChoiceBy situation moves given (Limit numbers) = IsEnd situation moves given numbers
IsChoiceBy situation moves given (Down down) = IsWayDown situation moves given down

-- all moves lose where none is left that is not known to; else the visit goes by the numbers that its moves give
abbrev pub IsChoice : Situation → Moves → Choice → Type 0
IsChoice situation moves AllLose = moves.children.items ≡ []
IsChoice situation moves (Limit numbers) =
    (moves.children.items ≢ [])
    × ((given : List Numbers) × (AreGiven moves.children.items given × IsEnd situation moves given numbers))
IsChoice situation moves (Down down) =
    (given : List Numbers) × (AreGiven moves.children.items given × IsWayDown situation moves given down)
