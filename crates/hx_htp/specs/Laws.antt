-- What holds of the replies of every run.
use Rattle.std.specs.Prelude.{◌≡◌, ℕ, ◌+◌, ◌≤◌, List, [], ◌∷◌}
use Rattle.std.specs.declared.option.Option.{Option}
use Rattle.std.specs.declared.option.Option.TheVariants.{None, Some}
use Rattle.std.specs.declared.result.Result.TheVariants.{Ok}
use Rattle.hx_board.specs.declared.colours.Colour.{Colour}
use Rattle.hx_board.specs.Colours.{other_of}
use Rattle.hx_board.specs.Game.{Wins}
use Rattle.hx_htp.specs.declared.requests.Request.TheVariants.{Solve}
use Rattle.hx_htp.specs.declared.answers.Answer.TheVariants.{Winner, UnknownBudget, UnknownProofs}
use Rattle.hx_htp.specs.Words.{words_of}
use Rattle.hx_htp.specs.States.{board_of}
use Rattle.hx_htp.specs.Accounts.{Account}
use Rattle.hx_htp.specs.Sessions.{Moment}
use Rattle.hx_htp.specs.Answers.{Given, to_move_of}
use Rattle.hx_htp.specs.Runs.{AnswersWords, asked_on, Run, SessionRun}
use Rattle.hx_htp.specs.Runs.Run.{Begun, Then}

-- what was given to words, if there were any
abbrev pub given_to : (old : Moment) (words : List (List ℕ)) (reply : List ℕ) (new : Moment)
    → AnswersWords old words reply new → Option Given
given_to old [] reply new answers = None
given_to old (word ∷ words) reply new answers = Some answers.given

-- ---- how often a question was left open

-- 1 for `unknown budget n`
abbrev pub share_of_budget : Option Given → ℕ
share_of_budget (Some (Ok (UnknownBudget n))) = 1
share_of_budget _ = 0

-- 1 for `unknown proofs n`
abbrev pub share_of_proofs : Option Given → ℕ
share_of_proofs (Some (Ok (UnknownProofs n))) = 1
share_of_proofs _ = 0

-- how many replies of a run are `unknown budget n`
abbrev pub open_budgets : {old new : Moment} {lines : List (List ℕ)} {replies : List ℕ} → Run old lines replies new → ℕ
open_budgets (Begun lines replies new none silent same) = 0
open_budgets (Then lines replies new earlier line front reply mid last more run answers) =
    open_budgets run + share_of_budget (given_to mid (words_of line) reply new answers)

-- and how many are `unknown proofs n`
abbrev pub open_proofs : {old new : Moment} {lines : List (List ℕ)} {replies : List ℕ} → Run old lines replies new → ℕ
open_proofs (Begun lines replies new none silent same) = 0
open_proofs (Then lines replies new earlier line front reply mid last more run answers) =
    open_proofs run + share_of_proofs (given_to mid (words_of line) reply new answers)

-- there are no more of either than the counts tell in the end
pub record IsCounted {before : Account} {lines : List (List ℕ)} {replies : List ℕ} {after : Account}
    (run : SessionRun before lines replies after) : Type 0 where
  pub budgets : open_budgets run.run ≤ after.budgets
  pub proofs : open_proofs run.run ≤ after.proofs

-- ---- who is named

-- A line asked who wins, and the player who is named wins the board as it stood then, with the mover who was asked for.
-- The other player does not.
pub record NamesWinner (before : Moment) (line : List ℕ) (winner : Colour) : Type 0 where
  pub mover : Option Colour
  pub solves : asked_on line ≡ Ok (Solve mover)
  pub wins : Wins winner (board_of before.state) (to_move_of before.state mover)
  pub alone : ¬ Wins (other_of winner) (board_of before.state) (to_move_of before.state mover)

-- what was given to a line names a winner, or no player
abbrev pub NamesRightly : Moment → List ℕ → Option Given → Type 0
NamesRightly before line (Some (Ok (Winner winner))) = NamesWinner before line winner
NamesRightly before line _ = Unit {0}

-- each player whom a run names is a winner
abbrev pub NamesWinners : {old new : Moment} {lines : List (List ℕ)} {replies : List ℕ} → Run old lines replies new
    → Type 0
NamesWinners (Begun lines replies new none silent same) = Unit {0}
NamesWinners (Then lines replies new earlier line front reply mid last more run answers) =
    NamesWinners run × NamesRightly mid line (given_to mid (words_of line) reply new answers)
