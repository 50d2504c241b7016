-- A run of the program: its words are a command, which then ran, or they are none.
use Rattle.std.specs.Prelude.{◌≡◌, ℕ, List, [], ◌∷◌, codes, Bool}
use Rattle.hx_io.specs.Sources.{Reading}
use Rattle.hx_io.specs.Sinks.{Writing}
use Rattle.hx_board.specs.Cells.{Extent}
use Rattle.hx_limits.specs.declared.settings.Settings.{Settings}
use Rattle.hx_limits.specs.Settings.{defaults}
use Rattle.hx_cli.specs.declared.commands.Command.{Command}
use Rattle.hx_cli.specs.Commands.{NameAndOptions, IsSolve, IsDemo, IsSurvey, Asks}
use Rattle.hx_answers.specs.Endings.{IsWritten}
use Rattle.hx_cmd_check.specs.Judgements.{IsCheckRun}
use Rattle.hx_cmd_play.specs.Runs.{IsPlayRun}
use Rattle.hx_cmd_template.specs.Claims.{IsTemplateRun}
use Rattle.hx_cmd_survey.specs.Answers.{IsSurveyRun}
use Rattle.hx_finish.specs.declared.finishes.Finish.{Finish}
use Rattle.hx_finish.specs.Wants.{no_refusal}
use Rattle.hx_cmd_solve.specs.Answers.{IsSolveRun}
use Rattle.hx_cmd_htp.specs.Sessions.{IsSessionRun}
use Rattle.hx_cmd_demo.specs.Answers.{IsDemoRun}

-- the words are a command
abbrev pub IsCommand : List (List ℕ) → Type 0
IsCommand words = (command : Command) × Asks command words

-- what is written where the words are no command
abbrev pub bad_words_line : List ℕ
bad_words_line = codes "bad words\n"

-- A run without settings has the budget and the slots of a search for which nobody chose a number, which are 1,000,000
-- and 65,536, and counts no refusal.
abbrev pub CountsNothing : Finish → Type 0
CountsNothing finish = finish.tally ≡ no_refusal defaults

-- A run: words that are no command are told so, and then the source is left as it was; or they are one, and it ran.
-- `demo` and `survey` leave the source as it was too.
pub data IsRun (words : List (List ℕ)) (source source_now : Reading) (sink sink_now : Writing)
    (finish : Finish) : Type 0 where
  Refused : (IsCommand words → ⊥) → source_now.left ≡ source.left → CountsNothing finish
      → IsWritten sink sink_now bad_words_line 2 finish.status
      → IsRun words source source_now sink sink_now finish
  Checked : words ≡ codes "check" ∷ [] → CountsNothing finish
      → IsCheckRun source source_now sink sink_now finish.status
      → IsRun words source source_now sink sink_now finish
  Searched : (settings : Settings) (plain_tree : Bool) → IsSolve settings plain_tree words
      → IsSolveRun settings plain_tree source source_now sink sink_now finish
      → IsRun words source source_now sink sink_now finish
  Served : (settings : Settings) → NameAndOptions (codes "htp") settings words
      → IsSessionRun settings source source_now sink sink_now finish
      → IsRun words source source_now sink sink_now finish
  Drew : (seed : ℕ) (settings : Settings) → IsDemo seed settings words → source_now.left ≡ source.left
      → IsDemoRun seed settings sink sink_now finish
      → IsRun words source source_now sink sink_now finish
  Played : words ≡ codes "play" ∷ [] → CountsNothing finish
      → IsPlayRun source source_now sink sink_now finish.status
      → IsRun words source source_now sink sink_now finish
  Decided : words ≡ codes "template" ∷ [] → CountsNothing finish
      → IsTemplateRun source source_now sink sink_now finish.status
      → IsRun words source source_now sink sink_now finish
  Tabled : (size : Extent) (settings : Settings) → IsSurvey size settings words → source_now.left ≡ source.left
      → IsSurveyRun size settings sink sink_now finish
      → IsRun words source source_now sink sink_now finish
