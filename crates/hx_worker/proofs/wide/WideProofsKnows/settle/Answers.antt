use Rattle.std.proofs.Common.{refl}
use Rattle.hx_book.proofs.SightLaws.{grows-on}
use Rattle.hx_worker.proofs.wide.WideProofsKnows.settle.Goals as goal

pub returns-in_err-store_wider-clause-goes : goal.returns-in_err-store_wider-clause-goes
returns-in_err-store_wider-clause-goes g c = record {
  grew = grows-on _ _ _ c.look_wider_either.ensures.grew c.store_wider.ensures.grew;
  same_behind = refl;
}

pub returns-in-Done-clause-goes : goal.returns-in-Done-clause-goes
returns-in-Done-clause-goes g c = record {
  grew = grows-on _ _ _ c.look_wider_either.ensures.grew c.store_wider.ensures.grew;
  same_behind = refl;
}

pub returns-in-Missing-clause-goes : goal.returns-in-Missing-clause-goes
returns-in-Missing-clause-goes g c = record {
  grew = grows-on _ _ _ c.look_wider_either.ensures.grew c.store_wider.ensures.grew;
  same_behind = refl;
}
