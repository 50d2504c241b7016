use Rattle.std.proofs.Common.{◌≡◌, ℕ, ◌+◌, ◌-◌, true, slice_index, arith, ⊎_elim, subst, sym, ◌∙◌}
use Rattle.std.proofs.lemmas.Bool.{cases_lt}
use Rattle.hx_board.specs.Sets.{has, union}
use Rattle.hx_board.proofs.SetLaws.{has-union_left, has-union_right}
use Rattle.hx_linkset.proofs.blocks.Block.links_of.Goals as goal

pub returns : goal.returns
unfolding union
returns c = λ cell number small h k. ⊎_elim
    (λ low. let same : 0 + cell ≡ cell = omega arith in
    let R : ℕ → Type 0 = λ x. has (slice_index c.args.self.now.rows x) number ≡ true in
    has-union_left c.half_links.result c.half_links-2.result number
    (c.half_links.ensures cell number (c.halves-low.ensures.low cell low ∙ h) (subst R (sym same) k)))
    (λ high. let same : cell - 64 + 64 ≡ cell = omega (arith, high) in
    let same' : 64 + (cell - 64) ≡ cell = omega (arith, high) in
    let P : ℕ → Type 0 = λ x. has c.args.cells x ≡ true in
    let Q : ℕ → Type 0 = λ x. has (slice_index c.args.self.now.rows x) number ≡ true in
    has-union_right c.half_links.result c.half_links-2.result number
    (c.half_links-2.ensures (cell - 64) number (c.halves-low.ensures.high (cell - 64) ∙ subst P (sym same) h) (subst Q (sym same') k)))
    (cases_lt cell 64)
