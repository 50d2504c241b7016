-- Who is named wins, and the other player does not. The states of a run have boards of the game, since each of their
-- moves was to an empty cell; and on those not both players win.
use Rattle.std.proofs.Common.{◌≡◌, ℕ, List, [], ◌∷◌, ◌++◌, Result, Ok, Err, Option, Some, refl, sym, ap, subst, inl, inr, arith}
use Rattle.hx_board.specs.declared.colours.Colour.{Colour}
use Rattle.hx_board.specs.Cells.{IsExtent}
use Rattle.hx_board.specs.Positions.{Board, IsBoard, IsEmpty}
use Rattle.hx_law.proofs.OneWinner.{not_both_win}
use Rattle.hx_htp.specs.declared.moves.Move.{Move}
use Rattle.hx_htp.specs.declared.requests.Request.{Request}
use Rattle.hx_htp.specs.declared.requests.Request.TheVariants as request
use Rattle.hx_htp.specs.declared.answers.Refusal.{Refusal}
use Rattle.hx_htp.specs.declared.answers.Refusal.TheVariants as refusal
use Rattle.hx_htp.specs.declared.answers.Answer.TheVariants as answer
use Rattle.hx_htp.specs.Words.{words_of, command_words}
use Rattle.hx_htp.specs.Commands.{asked}
use Rattle.hx_htp.specs.States.{State, fresh, no_moves, with_move, empty_board, board_of, AreMoves}
use Rattle.hx_htp.specs.Accounts.{Account}
use Rattle.hx_htp.specs.Sessions.{Moment, moment}
use Rattle.hx_htp.specs.Answers.{Given, Does, GeneratesMove, Solves, MayPlay, to_move_of}
use Rattle.hx_htp.specs.Answers.MayPlay.{Keeps_win, Of_no_win, Left_open}
use Rattle.hx_htp.specs.Answers.Undoes.{None_made, Last}
use Rattle.hx_htp.specs.Runs.{AnswersAsked, AnswersWords, asked_on, Run}
use Rattle.hx_htp.specs.Runs.Run.{Begun, Then}
use Rattle.hx_htp.specs.Laws.{given_to, NamesRightly, NamesWinners}
use Rattle.hx_htp.proofs.MoveLaws.{moves-append, moves-front, board-after, empty-is_board}

-- ---- the states of a run

-- a board that there is, and each move to a cell that was empty before it
pub record IsGame (state : State) : Type 0 where
  pub extent : IsExtent state.size.rows state.size.cols
  pub legal : AreMoves (empty_board state.size) state.moves

board_of_game : (state : State) → IsGame state → IsBoard (board_of state)
board_of_game state game = board-after (empty_board state.size) state.moves (empty-is_board state.size game.extent) game.legal

pub fresh_game : IsGame fresh
fresh_game = record { extent = (omega arith, omega arith, omega arith, omega arith); legal = tt }

game_at : (state same : State) → same ≡ state → IsGame state → IsGame same
game_at state same e game = subst IsGame (sym e) game

moved : (state : State) (move : Move) → IsGame state → IsEmpty (board_of state) move.cell → IsGame (with_move state move)
moved state move game empty =
    record { extent = game.extent; legal = moves-append (empty_board state.size) state.moves move game.legal empty }

undone : (state : State) (moves : List Move) (move : Move) → state.moves ≡ moves ++ move ∷ [] → IsGame state
    → IsGame (record { size = state.size; moves = moves })
undone state moves move is game =
    let Legal : List Move → Type 0 = AreMoves (empty_board state.size) in
    record { extent = game.extent; legal = (moves-front (empty_board state.size) moves move (subst Legal is game.legal)).0 }

-- where a moment is another one, so are their states
same_state : (new wanted : Moment) → new ≡ wanted → new.state ≡ wanted.state
same_state new wanted e = ap (λ (m : Moment). m.state) e

played_empty : (before after : Account) (board : Board) (player : Colour) (cell : ℕ) → MayPlay before after board player cell
    → IsEmpty board cell
played_empty before after board player cell (Keeps_win empty wins) = empty
played_empty before after board player cell (Of_no_win first none) = first.empty
played_empty before after board player cell (Left_open first left) = first.empty

generated_game : (old : Moment) (player : Colour) (given : Given) (new : Moment) → GeneratesMove old player given new → IsGame old.state
    → IsGame new.state
generated_game old player (Ok (answer.Cell cell)) new h game =
    game_at (with_move old.state (record { colour = player; cell = cell })) new.state h.1
    (moved old.state _ game (played_empty _ _ _ _ _ h.0))
generated_game old player (Err refusal.NoEmptyCell) new h game = game_at old.state new.state (same_state new old h.1) game
generated_game old player (Err refusal.OutOfMemory) new h game = game_at old.state new.state h.1.0 game
generated_game old player _ new h game = absurd h

solved_game : (old : Moment) (mover : Colour) (given : Given) (new : Moment) → Solves old mover given new → IsGame old.state
    → IsGame new.state
solved_game old mover (Ok (answer.Winner winner)) new h game = game_at old.state new.state h.1 game
solved_game old mover (Ok (answer.UnknownBudget n)) new h game = game_at old.state new.state h.3 game
solved_game old mover (Ok (answer.UnknownProofs n)) new h game = game_at old.state new.state h.3 game
solved_game old mover (Err refusal.OutOfMemory) new h game = game_at old.state new.state h.0 game
solved_game old mover _ new h game = absurd h

does_game : (old : Moment) (what : Request) (given : Given) (new : Moment) → Does old what given new → IsGame old.state → IsGame new.state
does_game old request.ProtocolVersion given new h game = game_at old.state new.state (same_state new old h.1) game
does_game old request.Name given new h game = game_at old.state new.state (same_state new old h.1) game
does_game old request.Version given new h game = game_at old.state new.state (same_state new old h.1) game
does_game old (request.KnownCommand known) given new h game = game_at old.state new.state (same_state new old h.1) game
does_game old request.ListCommands given new h game = game_at old.state new.state (same_state new old h.1) game
does_game old request.Quit given new h game = game_at old.state new.state (same_state new old h.1) game
does_game old (request.BoardSize cols rows) given new (inl h) game =
    game_at (no_moves (record { rows = rows; cols = cols })) new.state (same_state new _ h.1.1) (record { extent = h.0; legal = tt })
does_game old (request.BoardSize cols rows) given new (inr h) game = game_at old.state new.state (same_state new old h.1.1) game
does_game old request.ClearBoard given new h game =
    game_at (no_moves old.state.size) new.state (same_state new _ h.1) (record { extent = game.extent; legal = tt })
does_game old (request.Play player cell) given new (inl h) game =
    game_at (with_move old.state (record { colour = player; cell = cell })) new.state (same_state new _ h.1.1) (moved old.state _ game h.0)
does_game old (request.Play player cell) given new (inr h) game = game_at old.state new.state (same_state new old h.1.1) game
does_game old request.Undo given new (None_made none h) game = game_at old.state new.state (same_state new old h.1) game
does_game old request.Undo given new (Last moves move is h) game =
    game_at (record { size = old.state.size; moves = moves }) new.state (same_state new _ h.1) (undone old.state moves move is game)
does_game old (request.GenMove player) given new h game = generated_game old player given new h game
does_game old request.ShowBoard given new h game = game_at old.state new.state (same_state new old h.1) game
does_game old (request.Solve named) given new h game = solved_game old (to_move_of old.state named) given new h game

asked_game : (old : Moment) (what : Result Request Refusal) (given : Given) (new : Moment) → AnswersAsked old what given new
    → IsGame old.state → IsGame new.state
asked_game old (Ok what) given new h game = does_game old what given new h game
asked_game old (Err why) given new h game = game_at old.state new.state (same_state new old h.1) game

words_game : (old : Moment) (words : List (List ℕ)) (reply : List ℕ) (new : Moment) → AnswersWords old words reply new → IsGame old.state
    → IsGame new.state
words_game old [] reply new h game = game_at old.state new.state (same_state new old h.1) game
words_game old (word ∷ words) reply new h game = asked_game old _ h.given new h.answers game

run_game : (old new : Moment) (lines : List (List ℕ)) (replies : List ℕ) → Run old lines replies new → IsGame old.state → IsGame new.state
run_game old new lines replies (Begun _ _ _ none silent same) game = game_at old.state new.state (same_state new old same) game
run_game old new lines replies (Then _ _ _ earlier line front reply mid last more run answers) game =
    words_game mid (words_of line) reply new answers (run_game old mid earlier front run game)

-- ---- who is named

-- an answer that is this one names whom this one names
names_as : (old : Moment) (line : List ℕ) (given wanted : Given) → given ≡ wanted → NamesRightly old line (Some wanted)
    → NamesRightly old line (Some given)
names_as old line given wanted e rightly = (let P : Given → Type 0 = λ g. NamesRightly old line (Some g) in subst P (sym e) rightly)

generated_names : (old : Moment) (line : List ℕ) (player : Colour) (given : Given) (new : Moment) → GeneratesMove old player given new
    → NamesRightly old line (Some given)
generated_names old line player (Ok (answer.Winner winner)) new h = absurd h
generated_names old line player _ new h = tt

solved_names : (old : Moment) (line : List ℕ) (mover : Option Colour) (given : Given) (new : Moment)
    → asked_on line ≡ Ok (request.Solve mover)
    → IsBoard (board_of old.state) → Solves old (to_move_of old.state mover) given new → NamesRightly old line (Some given)
solved_names old line mover (Ok (answer.Winner winner)) new solves board h = record {
  mover = mover;
  solves = solves;
  wins = h.0;
  alone = λ other. not_both_win (board_of old.state) board winner (to_move_of old.state mover) h.0 other;
}
solved_names old line mover _ new solves board h = tt

does_names : (old : Moment) (line : List ℕ) (what : Request) (given : Given) (new : Moment) → asked_on line ≡ Ok what
    → IsBoard (board_of old.state)
    → Does old what given new → NamesRightly old line (Some given)
does_names old line request.ProtocolVersion given new is board h = names_as old line given _ h.0 tt
does_names old line request.Name given new is board h = names_as old line given _ h.0 tt
does_names old line request.Version given new is board h = names_as old line given _ h.0 tt
does_names old line (request.KnownCommand known) given new is board h = names_as old line given _ h.0 tt
does_names old line request.ListCommands given new is board h = names_as old line given _ h.0 tt
does_names old line request.Quit given new is board h = names_as old line given _ h.0 tt
does_names old line (request.BoardSize cols rows) given new is board (inl h) = names_as old line given _ h.1.0 tt
does_names old line (request.BoardSize cols rows) given new is board (inr h) = names_as old line given _ h.1.0 tt
does_names old line request.ClearBoard given new is board h = names_as old line given _ h.0 tt
does_names old line (request.Play player cell) given new is board (inl h) = names_as old line given _ h.1.0 tt
does_names old line (request.Play player cell) given new is board (inr h) = names_as old line given _ h.1.0 tt
does_names old line request.Undo given new is board (None_made none h) = names_as old line given _ h.0 tt
does_names old line request.Undo given new is board (Last moves move last h) = names_as old line given _ h.0 tt
does_names old line (request.GenMove player) given new is board h = generated_names old line player given new h
does_names old line request.ShowBoard given new is board h = names_as old line given _ h.0 tt
does_names old line (request.Solve mover) given new is board h = solved_names old line mover given new is board h

asked_names : (old : Moment) (line : List ℕ) (what : Result Request Refusal) (given : Given) (new : Moment) → asked_on line ≡ what
    → IsBoard (board_of old.state)
    → AnswersAsked old what given new → NamesRightly old line (Some given)
asked_names old line (Ok what) given new is board h = does_names old line what given new is board h
asked_names old line (Err why) given new is board h = names_as old line given (Err why) h.0 tt

words_names : (old : Moment) (line : List ℕ) (words : List (List ℕ)) (reply : List ℕ) (new : Moment) (h : AnswersWords old words reply new)
    → asked_on line ≡ asked (command_words words) → IsBoard (board_of old.state) → NamesRightly old line (given_to old words reply new h)
words_names old line [] reply new h is board = tt
words_names old line (word ∷ words) reply new h is board =
    asked_names old line (asked (command_words (word ∷ words))) h.given new is board h.answers

run_names : (old new : Moment) (lines : List (List ℕ)) (replies : List ℕ) (run : Run old lines replies new) → IsGame old.state
    → NamesWinners run
run_names old new lines replies (Begun _ _ _ none silent same) game = tt
run_names old new lines replies (Then _ _ _ earlier line front reply mid last more run answers) game = (
  run_names old mid earlier front run game,
  words_names mid line (words_of line) reply new answers refl (board_of_game mid.state (run_game old mid earlier front run game)),
)

pub winners_named : (before : Account) (after : Moment) (lines : List (List ℕ)) (replies : List ℕ)
    (run : Run (moment fresh before) lines replies after) → NamesWinners run
winners_named before after lines replies run = run_names (moment fresh before) after lines replies run fresh_game
