use Rattle.std.proofs.Common.{ap, string_bytes}
use Rattle.hx_cli.specs.Words.{words_of}
use Rattle.hx_cli.proofs.SeedWords.{SeedAndOptions-no_options}
use Rattle.hx_cli.proofs.seeds.seed_and_settings_in.Goals as goal

pub returns-in_err-settings : goal.returns-in_err-settings
returns-in_err-settings c =
    rw c.from_residual-in_err-settings.ensures
    (SeedAndOptions-no_options (words_of c.args.words.now) (string_bytes c.in_ok-word.word.now) (words_of c.in_ok-word.rest.now)
    (ap words_of c.in_ok-word.ensures.cases.0) c.in_err-settings.ensures)
