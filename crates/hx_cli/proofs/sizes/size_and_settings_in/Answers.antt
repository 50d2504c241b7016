use Rattle.std.proofs.Common.{ap, string_bytes}
use Rattle.hx_cli.specs.Words.{words_of}
use Rattle.hx_cli.proofs.SizeWords.{SizeAndOptions-no_size, SizeAndOptions-no_options}
use Rattle.hx_cli.proofs.sizes.size_and_settings_in.Goals as goal

pub returns-in_err-size : goal.returns-in_err-size
returns-in_err-size c =
    let first = ap words_of c.in_ok-rows.ensures.cases.0 in
    let second = ap words_of c.in_ok-cols.ensures.cases.0 in
    rw c.from_residual-in_err-size.ensures
    (SizeAndOptions-no_size (words_of c.args.words.now) (string_bytes c.in_ok-rows.rows.now) (string_bytes c.in_ok-cols.cols.now)
    (words_of c.in_ok-cols.rest.now) (cc) (rw c.as_bytes.ensures.value at (rw c.as_bytes-2.ensures.value at c.in_err-size.ensures)))

pub returns-in_err-settings : goal.returns-in_err-settings
returns-in_err-settings c =
    let first = ap words_of c.in_ok-rows.ensures.cases.0 in
    let second = ap words_of c.in_ok-cols.ensures.cases.0 in
    rw c.from_residual-in_err-settings.ensures
    (SizeAndOptions-no_options (words_of c.args.words.now) (string_bytes c.in_ok-rows.rows.now) (string_bytes c.in_ok-cols.cols.now)
    (words_of c.in_ok-cols.rest.now) (cc) c.in_err-settings.ensures)
