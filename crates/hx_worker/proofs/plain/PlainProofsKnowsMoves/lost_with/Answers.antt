use Rattle.std.proofs.Common.{rules, ◌≡◌, sym, ◌∙◌, ⊎_elim}
use Rattle.hx_board.specs.Colours.{other_of}
use Rattle.std.proofs.lemmas.Bool.{false≢true}
use Rattle.hx_board.proofs.SetLaws.{has-empty, has-insert_cases}
use Rattle.hx_worker.proofs.RefutedLaws.{first-wins}
use Rattle.hx_worker.proofs.plain.PlainProofsKnowsMoves.lost_with.Goals as goal

pub returns-in-Some-clause-lost : goal.returns-in-Some-clause-lost
returns-in-Some-clause-lost g c = λ other member.
    let found = rw (c.with-next.ensures, c.other-other.ensures) at c.in-Some.ensures.found in
    let wins : c.in-Some.found.winner ≡ other_of c.args.to_move = search rules in
    let same = ⊎_elim (λ same. same) (λ none. absurd (false≢true (sym (has-empty other) ∙ rw c.empty.ensures at none)))
    (has-insert_cases _ _ other (rw c.with.ensures.set at member)) in
    rw same (first-wins _ _ _ _ _ found wins)

pub returns-in_default-clause-lost : goal.returns-in_default-clause-lost
returns-in_default-clause-lost g c = λ other member.
    absurd (false≢true (sym (has-empty other) ∙ rw c.empty-in_default.ensures at member))
