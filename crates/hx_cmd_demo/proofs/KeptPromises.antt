-- What a run of `demo` says with each status is what a run says that searches (SearchEnds of hx_finish).
use Rattle.std.proofs.Common.{◌≡◌, ℕ, ◌<◌, ◌≤◌, ⊎_elim, ap, ◌∙◌, arith}
use Rattle.std.proofs.lemmas.Bool.{cases_lt}
use Rattle.hx_io.specs.Sinks.{Writing, append}
use Rattle.hx_limits.specs.declared.settings.Settings.{Settings}
use Rattle.hx_answers.specs.Endings.{IsWritten}
use Rattle.hx_finish.specs.declared.finishes.Finish.{Finish}
use Rattle.hx_finish.proofs.SearchEnds.{said_so, open_so}
use Rattle.hx_cmd_demo.specs.declared.answers.DemoAnswer.{DemoAnswer}
use Rattle.hx_cmd_demo.specs.declared.answers.DemoAnswer.TheVariants.{Counted, LeftOpen}
use Rattle.hx_cmd_demo.specs.Answers.{enough, counts_line, answer_text, status_of, tally_of, IsDue}
use Rattle.hx_cmd_demo.specs.Promises.{KeepsPromises}

-- what is left open is so only with a lower budget
pub low_budget : (budget : ℕ) → (enough ≤ budget → ⊥) → budget < enough
low_budget budget not_enough = ⊎_elim (λ less. less) (λ some. absurd (not_enough some)) (cases_lt budget enough)

pub kept : (seed : ℕ) (settings : Settings) (sink sink_now : Writing) (answer : DemoAnswer) (finish : Finish)
    → IsDue seed settings answer → finish.tally ≡ tally_of settings answer
    → IsWritten sink sink_now (answer_text answer) (status_of answer) finish.status
    → KeepsPromises seed settings sink sink_now finish
kept seed settings sink sink_now (Counted number wins) finish due counted written =
    said_so _ _ _ settings sink sink_now finish (counts_line number wins) (λ is. record {
      wins = wins;
      counts = due.1;
      output = is ∙ ap (λ (n : ℕ). append sink.taken (counts_line n wins)) due.0;
    }) counted written
kept seed settings sink sink_now (LeftOpen wanting) finish due counted written =
    open_so _ _ _ settings sink sink_now finish (λ some less. omega (arith, some, less)) wanting due counted written
