use Rattle.std.proofs.Common.{arith, ap, ◌∙◌, length, length-append}
use Rattle.hx_lex.proofs.WordLengths.{length-small}
use Rattle.hx_lex.proofs.texts.Text.put_small.Goals as goal

pub put-requires : goal.put-requires
put-requires c = omega (arith, length-small c.args.n c.requires.small, ap length (c.as_bytes.ensures.value ∙ c.format.ensures.text))

pub returns-clause-short : goal.returns-clause-short
returns-clause-short c =
    omega (
      arith,
      length-small c.args.n c.requires.small,
      ap length (c.as_bytes.ensures.value ∙ c.format.ensures.text),
      ap length
          c.put.ensures,
      length-append c.args.self.now c.as_bytes.result.now,
    )
