-- A session as a service over lines: its step from a line to a reply, and that what ran up to `quit` is the run of a
-- session.
use Rattle.std.proofs.Common.{◌≡◌, ℕ, Bool, false, List, [], ◌∷◌, ◌++◌, refl, sym, subst, arith}
use Rattle.hx_lines.specs.Services.{StepsOn, Completes}
use Rattle.hx_htp.specs.States.{State, fresh}
use Rattle.hx_htp.specs.Accounts.{Account}
use Rattle.hx_htp.specs.Sessions.{Moment, moment}
use Rattle.hx_htp.specs.Runs.{Run, AnswersLine, asks_quit}
use Rattle.hx_htp.specs.Runs.Run.{Begun, Then}
use Rattle.hx_cmd_htp.specs.Serving.{session_answers}
use Rattle.hx_cmd_htp.specs.Standings.{runs_to}
use Rattle.hx_cmd_htp.proofs.QuitLaws.{until_quit-stops, stops-push}

-- a session that has read nothing
pub begun : (start : Moment) → runs_to start start [] [] false
begun start = (Begun [] [] start refl refl refl, λ k d inside. absurd (omega (arith, inside)))

-- a session replies to one more line, and stops if it asks to quit
pub steps_on : (start now then_now : Moment) (line reply : List ℕ) (stops : Bool) → AnswersLine now line reply then_now
    → asks_quit line ≡ stops → StepsOn (runs_to start now) line reply stops (runs_to start then_now)
steps_on start now then_now line reply stops answers quits = λ lines replies run. (
  Then (lines ++ line ∷ []) (replies ++ reply) then_now lines line replies reply now refl refl run.0 answers,
  stops-push lines line stops run.1 quits,
)

pub completes : (start : Account) (state : State) (account : Account)
    → Completes (runs_to (moment fresh start) (moment state account)) (session_answers start account)
completes start state account = λ lines replies stopped run. (
  record {
    state = state;
    run = (let P : List (List ℕ) → Type 0 = λ ls. Run (moment fresh start) ls replies (moment state account) in
        subst P (sym (until_quit-stops lines stopped run.1)) run.0);
  },
  run.1,
)
