use Rattle.std.proofs.Common.{◌≡◌, ℕ, ◌+◌, ◌-◌, true, slice_index, arith, ⊎_elim, subst, sym, ◌∙◌}
use Rattle.std.proofs.lemmas.Bool.{cases_lt}
use Rattle.hx_board.specs.Sets.{has}
use Rattle.hx_linkset.proofs.blocks.Block.enter.Goals as goal

pub returns-clause-entered : goal.returns-clause-entered
returns-clause-entered c = λ cell small h. ⊎_elim
    (λ low. let same : 0 + cell ≡ cell = omega arith in
    let R : ℕ → Type 0 = λ x. has (slice_index c.enter_half.new.rows x) c.args.number ≡ true in
    c.enter_half-2.ensures.kept cell c.args.number
    (subst R same (c.enter_half.ensures.entered cell (c.halves-low.ensures.low cell low ∙ h))))
    (λ high. let same : cell - 64 + 64 ≡ cell = omega (arith, high) in
    let same' : 64 + (cell - 64) ≡ cell = omega (arith, high) in
    let P : ℕ → Type 0 = λ x. has c.args.cells x ≡ true in
    let Q : ℕ → Type 0 = λ x. has (slice_index c.enter_half-2.new.rows x) c.args.number ≡ true in
    subst Q same'
    (c.enter_half-2.ensures.entered (cell - 64) (c.halves-low.ensures.high (cell - 64) ∙ subst P (sym same) h)))
    (cases_lt cell 64)
