use Rattle.std.proofs.Common.{ℕ, sym, ◌∙◌, subst, ⊎_elim}
use Rattle.std.proofs.lemmas.Bool.{false≢true}
use Rattle.hx_board.specs.Positions.{IsEmpty}
use Rattle.hx_board.proofs.SetLaws.{remove-lt, has-empty, has-insert_cases}
use Rattle.hx_fill.proofs.makers.partner_of.Goals as goal

pub loop-other-smaller : goal.loop-other-smaller
loop-other-smaller c = rw c.without-left.ensures.set (remove-lt c.loop-other.left c.in-Some.other c.in-Some.ensures.member)

pub makers_of-back-requires-clause-among : goal.makers_of-back-requires-clause-among
makers_of-back-requires-clause-among c = λ n h. ⊎_elim
    (λ same. let P : ℕ → Type 0 = λ x. IsEmpty c.args.view.now.board x in subst P (sym same) c.requires.empty)
    (λ was. absurd (false≢true (sym (has-empty n) ∙ was)))
    (has-insert_cases 0 c.args.cell n (rw (c.with.ensures.set, c.empty.ensures) at h))
