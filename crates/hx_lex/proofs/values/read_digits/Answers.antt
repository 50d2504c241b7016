use Rattle.std.proofs.Common.{arith}
use Rattle.std.proofs.lemmas.Str.Parse.{digit_at}
use Rattle.hx_lex.proofs.Numbers.{read_digit, value_bound}
use Rattle.hx_lex.proofs.values.read_digits.Goals as goal

pub returns-then-not-is_ascii_digit : goal.returns-then-not-is_ascii_digit
returns-then-not-is_ascii_digit c = λ value is.
    let digit = digit_at c.args.word.now c.loop-byte.byte-index is.0 (omega arith) in
    let other = c.if-not-is_ascii_digit.ensures.cases in
    grind (arith, digit, other)

pub loop-byte-preserved : goal.loop-byte-preserved
loop-byte-preserved c =
    rw c.from.ensures (read_digit _ _ _ c.loop-byte-test.true c.if-not-is_ascii_digit.ensures.cases c.loop-byte.invariant)

pub overflow_mul-value : goal.overflow_mul-value
overflow_mul-value c =
    omega (
      arith,
      value_bound c.args.word.now c.loop-byte.byte-index c.loop-byte.value (omega arith) (omega arith)
          c.loop-byte.invariant,
    )

pub overflow_add-value : goal.overflow_add-value
overflow_add-value c =
    omega (
      arith,
      value_bound c.args.word.now c.loop-byte.byte-index c.loop-byte.value (omega arith) (omega arith)
          c.loop-byte.invariant,
      c.from.ensures,
      c.type_inv.word c.loop-byte.byte-index,
    )
