use Rattle.std.proofs.Common.{arith, length, ap, sym, ◌∙◌, ◌/◌, ◌%◌, ◌^◌}
use Rattle.hx_lex.proofs.Masks.{length-hex, whole_mask, high_half, low_half}
use Rattle.hx_lex.proofs.values.mask.Goals as goal

pub returns-then-word-ne-MASK : goal.returns-then-word-ne-MASK
returns-then-word-ne-MASK c = λ n small e. c.if-word-ne-MASK.true (ap length e ∙ length-hex 32 n)

pub returns-in_err-high : goal.returns-in_err-high
returns-in_err-high c =
    rw c.from_residual.ensures
    (λ n small e. c.in_err-high.ensures (n / 2 ^ 64) (omega arith) (c.split_at.ensures.front ∙ high_half c.args.word.now n e))

pub returns-in_err-low : goal.returns-in_err-low
returns-in_err-low c =
    rw c.from_residual-in_err-low.ensures
    (λ n small e. c.in_err-low.ensures (n % 2 ^ 64) (omega arith) (c.split_at.ensures.back ∙ low_half c.args.word.now n e))

pub returns : goal.returns
returns c =
    let high = c.in_ok-high.ensures in
    let low = c.in_ok-low.ensures in
    rw (c.of.ensures, c.from.ensures, c.from-2.ensures) (
      omega (arith, high.0, low.0),
      whole_mask c.args.word.now c.in_ok-high.high c.in_ok-low.low low.0 (sym c.split_at.ensures.front ∙ high.1)
          (sym c.split_at.ensures.back ∙ low.1),
    )
