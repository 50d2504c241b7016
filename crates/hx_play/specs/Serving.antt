-- A game as a service over the opponent's lines: how it ends, and what it has read and written then.
use Rattle.std.specs.Prelude.{◌≡◌, ℕ, List, Option}
use Rattle.hx_board.specs.Colours.{other_of}
use Rattle.hx_board.specs.Graph.{HasChain}
use Rattle.hx_lines.specs.declared.ended.Ended.{Ended}
use Rattle.hx_lines.specs.declared.ended.Ended.TheVariants as ended
use Rattle.hx_lines.specs.Services as services
use Rattle.hx_lines.specs.Services.{Service, Answers}
use Rattle.hx_answers.specs.Texts.{read_fault_line, too_long_line}
use Rattle.hx_play.specs.declared.serving.Served.{Served}
use Rattle.hx_play.specs.declared.serving.Served.TheVariants.{Chain, Unfinished, ReadFault, WriteFault, TooLong}
use Rattle.hx_play.specs.Games.{Game}
use Rattle.hx_play.specs.GameTexts.{GameRun, unfinished_line}

-- the last words of a game that did not end by a chain
abbrev pub game_service : Service
game_service = record {
  over_words = unfinished_line;
  read_fault_words = read_fault_line;
  too_long_words = too_long_line;
}

-- what is written of a game between these two, whose lines are the opponent's, and whether it ended by a chain
abbrev pub game_answers : Game → Game → Answers
game_answers start now = λ lines text ended. GameRun start lines text now ended

-- how the service ended
abbrev pub end_of : Served → Ended
end_of Chain = ended.Stopped
end_of Unfinished = ended.Over
end_of ReadFault = ended.ReadFault
end_of WriteFault = ended.WriteFault
end_of TooLong = ended.TooLong

-- What each end says: the game when it was begun and now, what the stream of lines had left and what the source has
-- left, and what the sink had taken and has taken. By a chain, a game of first lines that ended so; unfinished, a game
-- of all lines, none of which ended it; at a read that failed, of all lines whose LF was read; at a limit, of all lines
-- before it; at a write that failed, a front of such a text.
abbrev pub Ends : Game → Game → Option (List ℕ) → Option (List ℕ) → Option (List ℕ) → Option (List ℕ) → Served → Type 0
Ends start now before left taken taken_now served =
    services.Ends game_service (game_answers start now) before left taken taken_now (end_of served)

-- ---- words for the functions inside the crate alone

-- it is the opponent's turn, and the winner has no chain
pub record IsWaiting (game : Game) : Type 0 where
  pub going : ¬ HasChain game.position game.winner
  pub turn : game.to_move ≡ other_of game.winner
