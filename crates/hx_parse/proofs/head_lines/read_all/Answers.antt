use Rattle.hx_lex.proofs.Cursors.{rest_same}
use Rattle.hx_parse.proofs.head_lines.read_all.Goals as goal

pub returns-in_err-lines : goal.returns-in_err-lines
returns-in_err-lines c = rw c.from_residual-in_err-lines.ensures (λ opening is.
    c.in_err-lines.ensures is.2 _ is.6 (rest_same c.in_ok-threats.ensures.1 (rest_same c.in_ok-steps.ensures.1 is.7)))
