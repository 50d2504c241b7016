use Rattle.hx_book.proofs.SightLaws.{grows-on}
use Rattle.hx_widen.proofs.wider.look_wider_either.Goals as goal

pub returns-in-Some-look_wider-clause-grew : goal.returns-in-Some-look_wider-clause-grew
returns-in-Some-look_wider-clause-grew g c =
    grows-on _ _ _ c.look_wider.ensures.grew c.look_wider-2.ensures.grew

pub returns-in-None-clause-grew : goal.returns-in-None-clause-grew
returns-in-None-clause-grew g c = grows-on _ _ _ c.look_wider.ensures.grew c.look_wider-2.ensures.grew
