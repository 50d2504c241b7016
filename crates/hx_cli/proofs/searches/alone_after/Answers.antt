use Rattle.std.proofs.Common.{sym, ap, ◌∙◌}
use Rattle.hx_limits.specs.declared.settings.Settings.{Settings}
use Rattle.hx_cli.specs.Words.{words_of}
use Rattle.hx_cli.proofs.Leads.{AreChoicesAfter-one}
use Rattle.hx_cli.proofs.searches.alone_after.Goals as goal

pub returns-in_err-settings : goal.returns-in_err-settings
returns-in_err-settings c =
    rw c.from_residual.ensures (λ settings alone. c.in_err-settings.ensures settings alone.0)

pub returns-else-settings-eq1 : goal.returns-else-settings-eq1
returns-else-settings-eq1 c = λ settings alone.
    let same = AreChoicesAfter-one c.args.before (words_of c.args.words.now) settings c.in_ok-settings.settings alone.0
    c.in_ok-settings.ensures in
    c.if-settings-eq1.false (sym (ap (λ (s : Settings). s.workers) same) ∙ alone.1)
