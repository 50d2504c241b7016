-- What a run promises by the command that its words are. Words are one command at most, with one seed and with one
-- choice of settings.
use Rattle.std.proofs.Common.{◌≡◌, ℕ, List, sym, subst}
use Rattle.hx_io.specs.Sources.{Reading}
use Rattle.hx_io.specs.Sinks.{Writing}
use Rattle.hx_cli.specs.declared.commands.Command.{Command}
use Rattle.hx_cli.specs.declared.commands.Command.TheVariants.{Check, Solve, Htp, Demo, Play, Template, Survey}
use Rattle.hx_cli.specs.Commands.{Asks}
use Rattle.hx_cli.proofs.CommandWords.{Asks-one}
use Rattle.hx_cmd_check.specs.Judgements.{IsCheckRun}
use Rattle.hx_cmd_check.specs.Promises.{KeepsPromises as ChecksAsPromised}
use Rattle.hx_cmd_play.specs.Runs.{IsPlayRun}
use Rattle.hx_cmd_play.specs.Promises.{KeepsPromises as PlaysAsPromised}
use Rattle.hx_cmd_template.specs.Claims.{IsTemplateRun}
use Rattle.hx_cmd_template.specs.Promises.{KeepsPromises as DecidesAsPromised}
use Rattle.hx_finish.specs.declared.finishes.Finish.{Finish}
use Rattle.hx_cmd_solve.specs.Promises.{KeepsPromises as SolvesAsPromised}
use Rattle.hx_cmd_htp.specs.Sessions.{KeepsPromises as ServesAsPromised}
use Rattle.hx_cmd_demo.specs.Promises.{KeepsPromises as DrawsAsPromised}
use Rattle.hx_cmd_survey.specs.Promises.{KeepsPromises as TabulatesAsPromised}
use Rattle.hx_app.specs.Runs.{IsRun, Checked, Played, Decided, CountsNothing}

module _ (words : List (List ℕ)) (source source_now : Reading) (sink sink_now : Writing) where
  pub checked_run : (status : ℕ) (finish : Finish) → Asks Check words → finish.status ≡ status → CountsNothing finish
      → IsCheckRun source source_now sink sink_now status → IsRun words source source_now sink sink_now finish
  checked_run status finish asks same none ran =
      Checked asks none (subst (IsCheckRun source source_now sink sink_now) (sym same) ran)

  pub played_run : (status : ℕ) (finish : Finish) → Asks Play words → finish.status ≡ status → CountsNothing finish
      → IsPlayRun source source_now sink sink_now status → IsRun words source source_now sink sink_now finish
  played_run status finish asks same none ran =
      Played asks none (subst (IsPlayRun source source_now sink sink_now) (sym same) ran)

  pub decided_run : (status : ℕ) (finish : Finish) → Asks Template words → finish.status ≡ status → CountsNothing finish
      → IsTemplateRun source source_now sink sink_now status → IsRun words source source_now sink sink_now finish
  decided_run status finish asks same none ran =
      Decided asks none (subst (IsTemplateRun source source_now sink sink_now) (sym same) ran)

  -- what is promised of a run, by its command
  abbrev pub Promises : Finish → Command → Type 0
  Promises finish Check = ChecksAsPromised source source_now sink sink_now finish.status
  Promises finish (Solve settings plain_tree) = SolvesAsPromised settings plain_tree source source_now sink sink_now finish
  Promises finish (Htp settings) = ServesAsPromised settings source source_now sink sink_now finish
  Promises finish (Demo seed settings) = DrawsAsPromised seed settings sink sink_now finish
  Promises finish Play = PlaysAsPromised source source_now sink sink_now finish.status
  Promises finish Template = DecidesAsPromised source source_now sink sink_now finish.status
  Promises finish (Survey survey) = TabulatesAsPromised survey.size survey.settings sink sink_now finish

  -- words that are this command and also that one are one command, so what is promised of one is promised of the other
  pub kept : (finish : Finish) (own other : Command) → Asks own words → Asks other words → Promises finish own
      → Promises finish other
  kept finish own other asks others promises = subst (Promises finish) (Asks-one words own other asks others) promises
