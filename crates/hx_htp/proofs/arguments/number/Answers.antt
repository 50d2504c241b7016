use Rattle.std.proofs.Common.{refl, ◌∙◌, arith}
use Rattle.hx_htp.proofs.Numbers.{number_of-none, number_reads}
use Rattle.hx_htp.proofs.arguments.number.Goals as goal

pub returns-in_err-value : goal.returns-in_err-value
returns-in_err-value c = c.from_residual.ensures ∙ number_of-none _ (λ digits. c.in_err-value.ensures _ (digits, refl))

pub returns : goal.returns
returns c = number_reads _ _ _ _ (grind (arith, c.if-is_empty.ensures))
    (omega arith) c.in_ok-value.ensures.0 c.in_ok-value.ensures.1 c.try_from.ensures c.ok.ensures.value
