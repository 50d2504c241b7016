use Rattle.hx_parse.proofs.step_lines.read_stone.Goals as goal

pub returns-in_err-left : goal.returns-in_err-left
returns-in_err-left c =
    rw c.from_residual.ensures (λ step is. c.in_err-left.ensures (record { left = is.0; right = is.1 }) (is.3, is.4, is.5))
