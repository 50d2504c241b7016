-- How a request may be answered, and what becomes of the session. For all requests but `genmove` and `solve` there is
-- one answer.
use Rattle.std.specs.Prelude.{◌≡◌, ◌⊎◌, ℕ, ◌<◌, List, [], ◌∷◌, ◌++◌}
use Rattle.std.specs.declared.option.Option.{Option}
use Rattle.std.specs.declared.option.Option.TheVariants.{None, Some}
use Rattle.std.specs.declared.result.Result.{Result}
use Rattle.std.specs.declared.result.Result.TheVariants.{Ok, Err}
use Rattle.hx_io.specs.Causes.{Rose}
use Rattle.hx_board.specs.declared.colours.Colour.{Colour}
use Rattle.hx_board.specs.Colours.{other_of}
use Rattle.hx_board.specs.Cells.{IsExtent}
use Rattle.hx_board.specs.Positions.{Board, IsEmpty, IsFull, put}
use Rattle.hx_board.specs.Counts.{IsSmall}
use Rattle.hx_board.specs.Game.{Wins}
use Rattle.hx_htp.specs.declared.moves.Move.{Move}
use Rattle.hx_htp.specs.declared.requests.Request.{Request}
use Rattle.hx_htp.specs.declared.requests.Request.TheVariants as request
use Rattle.hx_htp.specs.declared.answers.Refusal.{Refusal}
use Rattle.hx_htp.specs.declared.answers.Refusal.TheVariants as refusal
use Rattle.hx_htp.specs.declared.answers.Answer.{Answer}
use Rattle.hx_htp.specs.declared.answers.Answer.TheVariants as answer
use Rattle.hx_htp.specs.States.{State, board_of, mover_of, no_moves, with_move}
use Rattle.hx_htp.specs.Accounts.{Account, Continues, LeavesOpen}
use Rattle.hx_htp.specs.Sessions.{Moment, moment}

-- what is given back: an answer, or why there is none
abbrev pub Given : Type 0
Given = Result Answer Refusal

-- the answer, and nothing changes
abbrev pub Says : Moment → Answer → Given → Moment → Type 0
Says old wanted given new = (given ≡ Ok wanted) × (new ≡ old)

-- the refusal, and nothing changes
abbrev pub Refuses : Moment → Refusal → Given → Moment → Type 0
Refuses old why given new = (given ≡ Err why) × (new ≡ old)

-- the empty answer, and from then on this state
abbrev pub Becomes : Moment → State → Given → Moment → Type 0
Becomes old state given new = (given ≡ Ok answer.Empty) × (new ≡ moment state old.account)

-- the last move is taken away, where there is one
pub data Undoes (old : Moment) (given : Given) (new : Moment) : Type 0 where
  None_made : old.state.moves ≡ [] → Refuses old refusal.CannotUndo given new → Undoes old given new
  Last : (moves : List Move) (move : Move) → old.state.moves ≡ moves ++ move ∷ []
      → Becomes old (record { size = old.state.size; moves = moves }) given new → Undoes old given new

-- the first empty cell in cell order
pub record IsFirstEmpty (board : Board) (cell : ℕ) : Type 0 where
  pub empty : IsEmpty board cell
  pub first : (other : ℕ) → other < cell → ¬ IsEmpty board other

-- A cell that may be played: it keeps a win of the player; or it is the first empty one, and the player does not win
-- the position, or a question was left open and the position after the move is not small.
pub data MayPlay (before after : Account) (board : Board) (player : Colour) (cell : ℕ) : Type 0 where
  Keeps_win : IsEmpty board cell → Wins player (put board player cell) (other_of player)
      → MayPlay before after board player cell
  Of_no_win : IsFirstEmpty board cell → ¬ Wins player board player → MayPlay before after board player cell
  Left_open : IsFirstEmpty board cell → LeavesOpen before after (put board player cell)
      → MayPlay before after board player cell

-- memory was wanting for an answer, and the state is as before
abbrev pub LacksMemory : Moment → Moment → Type 0
LacksMemory old new = (new.state ≡ old.state) × Continues old.account new.account

-- how `genmove` may be answered
abbrev pub GeneratesMove : Moment → Colour → Given → Moment → Type 0
GeneratesMove old player (Ok (answer.Cell cell)) new =
    MayPlay old.account new.account (board_of old.state) player cell
    × (new.state ≡ with_move old.state (record { colour = player; cell = cell })) × Continues old.account new.account
GeneratesMove old player (Err refusal.NoEmptyCell) new = IsFull (board_of old.state) × (new ≡ old)
GeneratesMove old player (Err refusal.OutOfMemory) new = ¬ IsFull (board_of old.state) × LacksMemory old new
GeneratesMove old player _ new = ⊥

-- how `solve` may be answered
abbrev pub Solves : Moment → Colour → Given → Moment → Type 0
Solves old mover (Ok (answer.Winner winner)) new =
    Wins winner (board_of old.state) mover × (new.state ≡ old.state) × Continues old.account new.account
Solves old mover (Ok (answer.UnknownBudget n)) new =
    (n ≡ old.account.budget) × Rose old.account.budgets new.account.budgets
    × (¬ IsSmall (board_of old.state) old.account.budget) × (new.state ≡ old.state) × Continues old.account new.account
Solves old mover (Ok (answer.UnknownProofs n)) new =
    (n ≡ old.account.slots) × Rose old.account.proofs new.account.proofs
    × (¬ IsSmall (board_of old.state) old.account.budget) × (new.state ≡ old.state) × Continues old.account new.account
Solves old mover (Err refusal.OutOfMemory) new = LacksMemory old new
Solves old mover _ new = ⊥

-- the player who is named, or else the mover
abbrev pub to_move_of : State → Option Colour → Colour
to_move_of state None = mover_of state
to_move_of state (Some player) = player

-- how each request may be answered
abbrev pub Does : Moment → Request → Given → Moment → Type 0
Does old request.ProtocolVersion given new = Says old answer.Protocol given new
Does old request.Name given new = Says old answer.Program given new
Does old request.Version given new = Says old answer.Release given new
Does old (request.KnownCommand known) given new = Says old (answer.Known known) given new
Does old request.ListCommands given new = Says old answer.Names given new
Does old request.Quit given new = Says old answer.Empty given new
Does old (request.BoardSize cols rows) given new =
    (IsExtent rows cols × Becomes old (no_moves (record { rows = rows; cols = cols })) given new)
    ⊎ ((¬ IsExtent rows cols) × Refuses old refusal.UnacceptableSize given new)
Does old request.ClearBoard given new = Becomes old (no_moves old.state.size) given new
Does old (request.Play player cell) given new =
    (IsEmpty (board_of old.state) cell
    × Becomes old (with_move old.state (record { colour = player; cell = cell })) given new)
    ⊎ ((¬ IsEmpty (board_of old.state) cell) × Refuses old refusal.IllegalMove given new)
Does old request.Undo given new = Undoes old given new
Does old (request.GenMove player) given new = GeneratesMove old player given new
Does old request.ShowBoard given new = Says old (answer.Shown (board_of old.state)) given new
Does old (request.Solve named) given new = Solves old (to_move_of old.state named) given new
