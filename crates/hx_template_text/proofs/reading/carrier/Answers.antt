use Rattle.std.proofs.Common.{sym, ◌∙◌}
use Rattle.std.proofs.lemmas.Bool.{false≢true}
use Rattle.hx_template_text.proofs.Misfits.{carrier_unread, carrier_misfit}
use Rattle.hx_template_text.proofs.reading.carrier.Goals as goal

pub returns-in_err-carrier : goal.returns-in_err-carrier
returns-in_err-carrier c = rw c.from_residual.ensures
    (carrier_unread c.args.position.now c.requires c.args.a.now c.args.b.now c.args.line.now c.in_err-carrier.ensures)

pub returns-else-is_carrier : goal.returns-else-is_carrier
returns-else-is_carrier c =
    carrier_misfit c.args.position.now c.requires c.args.a.now c.args.b.now c.in_ok-carrier.carrier c.args.line.now
    c.in_ok-carrier.ensures.0 c.in_ok-carrier.ensures.1 (λ fits. false≢true (sym c.if-is_carrier.false ∙ c.is_carrier.ensures.1 fits))
