use Rattle.std.proofs.Common.{◌≡◌, sym, ap, ◌∙◌, string_bytes}
use Rattle.hx_cli.specs.Words.{words_of}
use Rattle.hx_cli.specs.Settings.{name_of}
use Rattle.hx_cli.specs.Choices.{Apart, Joined}
use Rattle.hx_cli.proofs.Spellings.{Spelled-no_option}
use Rattle.hx_cli.proofs.options.first_option.Goals as goal

pub returns-in_err-choice-in-None : goal.returns-in_err-choice-in-None
returns-in_err-choice-in-None c =
    rw c.from_residual-in_err-choice-in-None.ensures
    (Spelled-no_option (words_of c.args.words.now) (string_bytes c.in_ok-word.word.now) (words_of c.in_ok-word.rest.now)
    (ap words_of c.in_ok-word.ensures.cases.0) (rw c.as_bytes.ensures.value at c.in-None.ensures)
    (rw c.as_bytes-in-None.ensures.value at c.in_err-choice-in-None.ensures))

pub returns-in_ok-number-in-Some : goal.returns-in_ok-number-in-Some
returns-in_ok-number-in-Some c =
    let first = ap words_of c.in_ok-word.ensures.cases.0 in
    let second = ap words_of c.in_ok-value-in-Some.ensures.cases.0 in
    let name : string_bytes c.in_ok-word.word.now ≡ name_of c.in-Some.setting =
    sym c.as_bytes.ensures.value ∙ c.in-Some.ensures in
    Apart (string_bytes c.in_ok-value-in-Some.value.now)
    (rw c.as_bytes-in-Some.ensures.value at c.in_ok-number-in-Some.ensures) cc

pub returns-in_ok-choice-in-None : goal.returns-in_ok-choice-in-None
returns-in_ok-choice-in-None c =
    Joined (string_bytes c.in_ok-word.word.now) (rw c.as_bytes-in-None.ensures.value at c.in_ok-choice-in-None.ensures)
    (ap words_of c.in_ok-word.ensures.cases.0)
