use Rattle.std.proofs.Common.{subst, sym, refl}
use Rattle.std.proofs.lemmas.Bool.{false≢true}
use Rattle.hx_lex.specs.Words.{IsCanonical}
use Rattle.hx_lex.proofs.Numbers.{decimal_canonical, not_a_number, number_reads}
use Rattle.hx_lex.proofs.values.read_number.Goals as goal

pub returns-then-not-is_canonical : goal.returns-then-not-is_canonical
returns-then-not-is_canonical c = λ n small e.
    let shape : IsCanonical c.args.word.now = subst IsCanonical (sym e) (decimal_canonical n small) in
    absurd (false≢true (c.if-not-is_canonical.ensures.1 shape))

pub returns-in_err-value : goal.returns-in_err-value
returns-in_err-value c = rw c.from_residual.ensures (not_a_number _ (λ digits. c.in_err-value.ensures _ (digits, refl)))

pub returns : goal.returns
returns c = number_reads _ _ _ _ (c.if-not-is_canonical.ensures.0 refl) c.in_ok-value.ensures.0 c.in_ok-value.ensures.1
    c.try_from.ensures c.ok.ensures.value
