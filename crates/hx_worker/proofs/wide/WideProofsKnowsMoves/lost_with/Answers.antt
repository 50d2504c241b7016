use Rattle.std.proofs.Common.{sym, ◌∙◌}
use Rattle.std.proofs.lemmas.Bool.{false≢true}
use Rattle.hx_board.proofs.SetLaws.{has-empty}
use Rattle.hx_worker.proofs.RefutedLaws.{found-serves_others}
use Rattle.hx_worker.proofs.wide.WideProofsKnowsMoves.lost_with.Goals as goal

pub returns-in-Some-clause-lost : goal.returns-in-Some-clause-lost
returns-in-Some-clause-lost g c = λ other member.
    let found = rw (c.with-next.ensures, c.other-other.ensures) at c.in-Some.ensures.found in (
      c.in-Some.wider.found.index,
      found-serves_others _ _ _ _ _ c.in-Some.wider found _ _ c.empties.ensures
          c.empties-in-Some.ensures other (rw c.minus.ensures.set at member),
    )

pub returns-in-None-clause-lost : goal.returns-in-None-clause-lost
returns-in-None-clause-lost g c = λ other member.
    absurd (false≢true (sym (has-empty other) ∙ rw c.empty.ensures at member))
