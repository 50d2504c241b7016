-- What a run of `survey` is good for: its table tells who wins in the game tree, and what is left open has its cause.
use Rattle.std.specs.Prelude.{◌≡◌, ℕ, List, Option}
use Rattle.hx_io.specs.Sinks.{Writing, append}
use Rattle.hx_board.specs.Cells.{Extent}
use Rattle.hx_limits.specs.declared.settings.Settings.{Settings}
use Rattle.hx_openings.specs.Openings.{OpeningsAreSmall}
use Rattle.hx_survey.specs.Surveys.{IsSurvey}
use Rattle.hx_finish.specs.declared.finishes.Finish.{Finish}
use Rattle.hx_finish.specs.Finishes.{EndsSo}
use Rattle.hx_cmd_survey.specs.Texts.{table_text}

-- The output is the table of a board of this size: after each opening the player wins whose letter it has.
pub record SaysTable (size : Extent) (before now : Option (List ℕ)) : Type 0 where
  pub black : ℕ
  pub survey : IsSurvey size black
  pub output : now ≡ append before (table_text size black)

-- The promises of `survey` with its size and settings, by how far was written to its sink before and is now, and how it
-- ended: with status 0 the output is the true table; small openings are enough for it, and 3 comes only where they are
-- not small.
abbrev pub KeepsPromises : Extent → Settings → Writing → Writing → Finish → Type 0
KeepsPromises size settings sink sink_now finish =
    EndsSo (SaysTable size sink.taken sink_now.taken) (OpeningsAreSmall size settings.budget)
    (¬ OpeningsAreSmall size settings.budget) settings sink sink_now finish
