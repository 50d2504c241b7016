use Rattle.std.proofs.Common.{arith, ap, length, length-append}
use Rattle.hx_lex.proofs.WordLengths.{length-colour_word}
use Rattle.hx_lex.proofs.texts.Text.put_colour.Goals as goal

pub put-requires : goal.put-requires
put-requires c = omega (arith, ap length c.colour_word.ensures, length-colour_word c.args.colour)

pub returns-clause-short : goal.returns-clause-short
returns-clause-short c =
    omega (
      arith,
      ap length c.put.ensures,
      length-append c.args.self.now c.colour_word.result.now,
      ap length c.colour_word.ensures,
      length-colour_word c.args.colour,
    )
