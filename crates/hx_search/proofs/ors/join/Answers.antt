use Rattle.hx_reach.proofs.GrowthLaws.{grown-same}
use Rattle.hx_search.proofs.SettledLaws.{added-grown}
use Rattle.hx_search.proofs.OrLaws.{or-passed}
use Rattle.hx_search.proofs.ors.join.Goals as goal

pub returns-in-Ok-clause-grown : goal.returns-in-Ok-clause-grown
returns-in-Ok-clause-grown c = added-grown _ _ _ c.in-Ok.added c.in-Ok.ensures.added

pub returns-in-Ok-clause-passed : goal.returns-in-Ok-clause-passed
returns-in-Ok-clause-passed c =
    rw c.passed_by.ensures
    (or-passed _ _ c.args.a.now c.args.b.now c.in-Ok-Some.parts (rw c.in-Ok-Some.field-0-is at c.in-Ok-Some.ensures) c.in-None.ensures
    c.in-Ok.added c.in-Ok.ensures.added)

pub returns-in-Err-add-clause-grown : goal.returns-in-Err-add-clause-grown
returns-in-Err-add-clause-grown c = grown-same _ _ c.in-Err-add.ensures.memory
