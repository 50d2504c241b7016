-- What the parts of a session promise each other. These words are for the functions inside the crate alone.
use Rattle.std.specs.Prelude.{◌≡◌, ◌≢◌, ◌≤◌, ℕ, false, List, [], ◌∷◌, length}
use Rattle.std.specs.declared.result.Result.{Result}
use Rattle.hx_board.specs.declared.colours.Colour.{Colour}
use Rattle.hx_board.specs.Colours.{other_of}
use Rattle.hx_board.specs.Positions.{Board, put}
use Rattle.hx_board.specs.Game.{Wins}
use Rattle.hx_htp.specs.declared.requests.Request.{Request}
use Rattle.hx_htp.specs.declared.answers.Refusal.{Refusal}
use Rattle.hx_htp.specs.Words.{is_space, number_of_line, command_words}
use Rattle.hx_htp.specs.Commands.{asked}
use Rattle.hx_htp.specs.Accounts.{Account, LeavesOpen}

-- no byte is left, or a word begins
abbrev pub BeginsWord : List ℕ → Type 0
BeginsWord [] = Unit {0}
BeginsWord (byte ∷ bytes) = is_space byte ≡ false

-- some words, their number and what they ask for
pub record IsCommand (words : List (List ℕ)) (number : List ℕ) (what : Result Request Refusal) : Type 0 where
  pub some : words ≢ []
  pub number_is : number ≡ number_of_line words
  pub short : length number ≤ 10
  pub asked_is : what ≡ asked (command_words words)

-- A move that is not known to keep a win: the other player wins after it, or that was left open.
pub data IsPassed (before after : Account) (board : Board) (player : Colour) (cell : ℕ) : Type 0 where
  Lost : Wins (other_of player) (put board player cell) (other_of player) → IsPassed before after board player cell
  Unknown : LeavesOpen before after (put board player cell) → IsPassed before after board player cell
