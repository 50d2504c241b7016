use Rattle.std.proofs.Common.{arith}
use Rattle.hx_lex.proofs.Cursors.{first_same}
use Rattle.hx_lex.proofs.Injective.{number_injective}
use Rattle.hx_lex.proofs.words.Words.count.Goals as goal

pub returns-else-number-most : goal.returns-else-number-most
returns-else-number-most c = λ value rest within e.
    let same = number_injective _ value c.in_ok-number.ensures.0 (omega (arith, within, c.requires))
    (first_same c.in_ok-number.ensures.1 e) in
    absurd (omega (arith, same, within, c.if-number-most.false))
