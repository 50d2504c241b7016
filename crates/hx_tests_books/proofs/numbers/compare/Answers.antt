use Rattle.std.proofs.Common.{ℕ, zero, suc, ◌<◌, [], ◌∷◌, slice_index_or, arith}
use Rattle.hx_pn.specs.declared.proof_numbers.Numbers.{Numbers}
use Rattle.hx_pn.specs.Numbers.{IsNumbers}
use Rattle.hx_tests_books.proofs.numbers.compare.Goals as goal

-- what four items are, each item of their list is
each_of_four : (a b c d : Numbers) → IsNumbers a → IsNumbers b → IsNumbers c → IsNumbers d
    → (k : ℕ) (other : Numbers) → k < 4 → IsNumbers (slice_index_or (a ∷ b ∷ c ∷ d ∷ []) k other)
each_of_four a b c d is_a is_b is_c is_d zero other less = is_a
each_of_four a b c d is_a is_b is_c is_d (suc zero) other less = is_b
each_of_four a b c d is_a is_b is_c is_d (suc (suc zero)) other less = is_c
each_of_four a b c d is_a is_b is_c is_d (suc (suc (suc zero))) other less = is_d
each_of_four a b c d is_a is_b is_c is_d (suc (suc (suc (suc k)))) other less = absurd (omega arith)

pub combine-all-requires : goal.combine-all-requires
combine-all-requires g c =
    each_of_four c.drawn.result c.drawn-2.result c.drawn-3.result c.drawn-4.result
    c.drawn.ensures c.drawn-2.ensures c.drawn-3.ensures c.drawn-4.ensures
