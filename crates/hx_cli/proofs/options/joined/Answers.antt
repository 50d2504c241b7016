use Rattle.hx_cli.proofs.Spellings.{IsJoined-cut_name}
use Rattle.hx_cli.proofs.options.joined.Goals as goal

pub returns-in_err-setting : goal.returns-in_err-setting
returns-in_err-setting c =
    rw c.from_residual-in_err-setting.ensures
    (IsJoined-cut_name c.args.word.now c.in_ok-name.name.now c.in_ok-name.value.now c.in_ok-name.ensures
    c.in_err-setting.ensures)
