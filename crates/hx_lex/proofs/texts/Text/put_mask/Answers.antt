use Rattle.std.proofs.Common.{◌∙◌, ap, arith, ◌++◌, ◌∷◌, [], List, ℕ}
use Rattle.hx_lex.proofs.WordLengths.{hex_none, hex_next, length-digits}
use Rattle.hx_lex.proofs.texts.Text.put_mask.Goals as goal

pub loop-place-init : goal.loop-place-init
loop-place-init c = hex_none c.args.self.now _

pub put-requires : goal.put-requires
put-requires c = omega (arith, length-digits c.args.self.now c.loop-place.self _ c.loop-place.place c.loop-place.invariant)

pub loop-place-preserved : goal.loop-place-preserved
loop-place-preserved c =
    hex_next c.args.self.now c.put.new.self c.bits-bits.result c.loop-place.place c.hex_digit_of.result c.loop-place-test.true
    c.loop-place.auto.place
    (c.put.ensures ∙ ap (λ (xs : List ℕ). xs ++ c.hex_digit_of.result ∷ []) c.loop-place.invariant) c.hex_digit_of.ensures

pub returns-clause-long : goal.returns-clause-long
returns-clause-long c =
    omega (arith, length-digits c.args.self.now c.loop-place.self _ c.loop-place.place c.loop-place.invariant, c.loop-place-test.false)
