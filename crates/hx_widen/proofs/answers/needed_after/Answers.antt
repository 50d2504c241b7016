use Rattle.hx_book.proofs.SightLaws.{grows-on}
use Rattle.hx_widen.proofs.answers.needed_after.Goals as goal

pub returns-in_default-empties_after : goal.returns-in_default-empties_after
returns-in_default-empties_after g c = record { grew = grows-on _ _ _ c.loop.invariant c.empties_after.ensures.grew }

pub loop-preserved : goal.loop-preserved
loop-preserved g c = grows-on _ _ _ c.loop.invariant c.empties_after.ensures.grew
