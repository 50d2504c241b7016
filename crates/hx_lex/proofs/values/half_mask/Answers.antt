use Rattle.std.proofs.Common.{rules, arith, ◌≡◌, ◌∙◌, ap, length}
use Rattle.hx_lex.proofs.Masks.{read_no_hex, read_hex, hex_bound}
use Rattle.hx_lex.proofs.values.half_mask.Goals as goal

pub loop-byte-init : goal.loop-byte-init
loop-byte-init c = read_no_hex _

pub overflow_mul-bits : goal.overflow_mul-bits
overflow_mul-bits c =
    omega (
      arith,
      hex_bound c.in-Ok.array c.loop-byte.byte-index c.loop-byte.bits 0 c.loop-byte.known (omega arith)
          (omega arith) c.loop-byte.invariant,
    )

pub overflow_add-bits : goal.overflow_add-bits
overflow_add-bits c =
    omega (
      arith,
      c.from.ensures,
      hex_bound c.in-Ok.array c.loop-byte.byte-index c.loop-byte.bits c.from.result c.loop-byte.known (omega arith)
          (omega (arith, c.from.ensures)) c.loop-byte.invariant,
    )

pub loop-byte-preserved : goal.loop-byte-preserved
loop-byte-preserved c =
    let same : c.in-Ok.array ≡ c.args.digits.now = search rules in
    let long : length c.in-Ok.array ≡ 16 = ap length same ∙ c.requires in
    rw c.from.ensures (read_hex _ _ _ _ _
    (omega (arith, long, c.loop-byte-test.true)) c.hex_value-digit.ensures.digit c.hex_value-digit.ensures.each c.loop-byte.invariant)
