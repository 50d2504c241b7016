use Rattle.std.proofs.Common.{◌≡◌, ℕ, List, ◌∷◌, sym, ap, ◌∙◌}
use Rattle.hx_cli.specs.Words.{words_of}
use Rattle.hx_cli.proofs.CommandWords.{Asks-solve, Asks-htp, Asks-demo, Asks-survey}
use Rattle.hx_cli.proofs.SearchWords.{choices-limits}
use Rattle.hx_cli.proofs.OptionWords.{AreOptions-settings, choices-searches, searches-choices}
use Rattle.hx_cli.proofs.SeedWords.{SeedAndOptions-limits}
use Rattle.hx_cli.proofs.SizeWords.{SizeAndOptions-limits}
use Rattle.hx_cli.proofs.commands.command_of.Goals.{After-as_str}
use Rattle.hx_cli.proofs.commands.command_of.Goals as goal

-- the words are the command's name and those behind it
named : (c : After-as_str) {name : List ℕ} → c.as_str.result.now ≡ name → words_of c.args.words.now ≡ name ∷ words_of c.in_ok-name.rest.now
named c is = ap words_of c.in_ok-name.ensures.cases.0 ∙ ap (λ n. n ∷ words_of c.in_ok-name.rest.now) (sym c.as_str.ensures.value ∙ is)

pub returns-in_err-settings-in-solve-clause-finds : goal.returns-in_err-settings-in-solve-clause-finds
returns-in_err-settings-in-solve-clause-finds c =
    rw c.from_residual-in_err-settings-in-solve.ensures
    (Asks-solve _ _ (named (goal.at.returns-in_err-settings-in-solve-clause-finds c).After-as_str c.in-solve.is)
    (λ found options. c.in_err-settings-in-solve.ensures found (searches-choices found.1 found.0 (words_of c.in_ok-name.rest.now) options)))

pub returns-in_ok-settings-in-solve-clause-finds : goal.returns-in_ok-settings-in-solve-clause-finds
returns-in_ok-settings-in-solve-clause-finds c = (
  words_of c.in_ok-name.rest.now,
  named (goal.at.returns-in_ok-settings-in-solve-clause-finds c).After-as_str c.in-solve.is,
  choices-searches c.in_ok-settings-in-solve.plain_tree c.in_ok-settings-in-solve.settings
      (words_of c.in_ok-name.rest.now) c.in_ok-settings-in-solve.ensures,
)

pub returns-in_ok-settings-in-solve-clause-limits : goal.returns-in_ok-settings-in-solve-clause-limits
returns-in_ok-settings-in-solve-clause-limits c =
    choices-limits (words_of c.in_ok-name.rest.now) c.in_ok-settings-in-solve.plain_tree c.in_ok-settings-in-solve.settings
    c.in_ok-settings-in-solve.ensures

pub returns-in_err-settings-in-htp-clause-finds : goal.returns-in_err-settings-in-htp-clause-finds
returns-in_err-settings-in-htp-clause-finds c =
    rw c.from_residual-in_err-settings-in-htp.ensures
    (Asks-htp _ _ (named (goal.at.returns-in_err-settings-in-htp-clause-finds c).After-as_str c.in-htp.is)
    c.in_err-settings-in-htp.ensures)

pub returns-in_ok-settings-in-htp-clause-limits : goal.returns-in_ok-settings-in-htp-clause-limits
returns-in_ok-settings-in-htp-clause-limits c =
    AreOptions-settings (words_of c.in_ok-name.rest.now) c.in_ok-settings-in-htp.settings c.in_ok-settings-in-htp.ensures

pub returns-in_err-seed-in-demo-clause-finds : goal.returns-in_err-seed-in-demo-clause-finds
returns-in_err-seed-in-demo-clause-finds c =
    rw c.from_residual-in_err-seed-in-demo.ensures
    (Asks-demo _ _ (named (goal.at.returns-in_err-seed-in-demo-clause-finds c).After-as_str c.in-demo.is)
    c.in_err-seed-in-demo.ensures)

pub returns-in_ok-seed-in-demo-clause-limits : goal.returns-in_ok-seed-in-demo-clause-limits
returns-in_ok-seed-in-demo-clause-limits c =
    SeedAndOptions-limits
    (words_of c.in_ok-name.rest.now) c.in_ok-seed-in-demo.seed c.in_ok-seed-in-demo.settings c.in_ok-seed-in-demo.ensures

pub returns-in_err-size-in-survey-clause-finds : goal.returns-in_err-size-in-survey-clause-finds
returns-in_err-size-in-survey-clause-finds c =
    rw c.from_residual-in_err-size-in-survey.ensures
    (Asks-survey _ _ (named (goal.at.returns-in_err-size-in-survey-clause-finds c).After-as_str c.in-survey.is)
    c.in_err-size-in-survey.ensures)

pub returns-in_ok-size-in-survey-clause-limits : goal.returns-in_ok-size-in-survey-clause-limits
returns-in_ok-size-in-survey-clause-limits c =
    SizeAndOptions-limits
    (words_of c.in_ok-name.rest.now) c.in_ok-size-in-survey.size c.in_ok-size-in-survey.settings c.in_ok-size-in-survey.ensures
