-- What a run of `survey` says with each status is what a run says that searches (SearchEnds of hx_finish).
use Rattle.std.proofs.Common.{◌≡◌, ap, ◌∙◌}
use Rattle.hx_io.specs.Sinks.{Writing, append}
use Rattle.hx_board.specs.Cells.{Extent}
use Rattle.hx_limits.specs.declared.settings.Settings.{Settings}
use Rattle.hx_answers.specs.Endings.{IsWritten}
use Rattle.hx_finish.specs.declared.finishes.Finish.{Finish}
use Rattle.hx_finish.proofs.SearchEnds.{said_so, open_so}
use Rattle.hx_cmd_survey.specs.declared.answers.Answer.{Answer}
use Rattle.hx_cmd_survey.specs.declared.answers.Answer.TheVariants.{Surveyed, LeftOpen}
use Rattle.hx_cmd_survey.specs.Texts.{table_text}
use Rattle.hx_cmd_survey.specs.Answers.{answer_text, status_of, tally_of, IsDue}
use Rattle.hx_cmd_survey.specs.Promises.{KeepsPromises}

pub kept : (size : Extent) (settings : Settings) (sink sink_now : Writing) (answer : Answer) (finish : Finish)
    → IsDue size settings answer → finish.tally ≡ tally_of settings answer
    → IsWritten sink sink_now (answer_text answer) (status_of answer) finish.status
    → KeepsPromises size settings sink sink_now finish
kept size settings sink sink_now (Surveyed table) finish due counted written =
    said_so _ _ _ settings sink sink_now finish (table_text table.size table.cells_of_black) (λ is. record {
      black = table.cells_of_black;
      survey = due.1;
      output = is ∙ ap (λ (s : Extent). append sink.taken (table_text s table.cells_of_black)) due.0;
    }) counted written
kept size settings sink sink_now (LeftOpen wanting) finish due counted written =
    open_so _ _ _ settings sink sink_now finish (λ small not_small. not_small small) wanting due counted written
