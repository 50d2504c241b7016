-- What `survey` answers, and when.
use Rattle.std.specs.Prelude.{◌≡◌, ℕ, List}
use Rattle.hx_io.specs.Sinks.{Writing}
use Rattle.hx_board.specs.Cells.{Extent}
use Rattle.hx_limits.specs.declared.settings.Settings.{Settings}
use Rattle.hx_limits.specs.Tallies.{Tallied}
use Rattle.hx_openings.specs.Openings.{OpeningsAreSmall}
use Rattle.hx_survey.specs.Surveys.{IsSurvey}
use Rattle.hx_answers.specs.Endings.{IsWritten}
use Rattle.hx_finish.specs.declared.finishes.Finish.{Finish}
use Rattle.hx_finish.specs.Wants.{wanting_text, wanting_status, wanting_tally, no_refusal, IsWantingWhere}
use Rattle.hx_cmd_survey.specs.declared.answers.Answer.{Answer}
use Rattle.hx_cmd_survey.specs.declared.answers.Answer.TheVariants.{Surveyed, LeftOpen}
use Rattle.hx_cmd_survey.specs.Texts.{table_text}

-- what is written for each answer
abbrev pub answer_text : Answer → List ℕ
answer_text (Surveyed table) = table_text table.size table.cells_of_black
answer_text (LeftOpen wanting) = wanting_text wanting

-- the exit status that tells each answer, where it was written whole
abbrev pub status_of : Answer → ℕ
status_of (Surveyed table) = 0
status_of (LeftOpen wanting) = wanting_status wanting

-- the refusals that stand behind each answer
abbrev pub tally_of : Settings → Answer → Tallied
tally_of settings (Surveyed table) = no_refusal settings
tally_of settings (LeftOpen wanting) = wanting_tally settings wanting

-- When each answer comes: a table only where it tells who wins after each opening, and a limit only where the openings
-- are not small under the budget.
abbrev pub IsDue : Extent → Settings → Answer → Type 0
IsDue size settings (Surveyed table) = (table.size ≡ size) × IsSurvey size table.cells_of_black
IsDue size settings (LeftOpen wanting) = IsWantingWhere settings (¬ OpeningsAreSmall size settings.budget) wanting

-- A run of `survey`: some answer is due, it was written, and the tally has the refusals behind it.
pub record IsSurveyRun (size : Extent) (settings : Settings) (sink sink_now : Writing) (finish : Finish) : Type 0 where
  pub answer : Answer
  pub due : IsDue size settings answer
  pub written : IsWritten sink sink_now (answer_text answer) (status_of answer) finish.status
  pub counted : finish.tally ≡ tally_of settings answer
