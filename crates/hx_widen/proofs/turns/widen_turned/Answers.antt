use Rattle.hx_book.proofs.SightLaws.{grows-on}
use Rattle.hx_widen.proofs.turns.widen_turned.Goals as goal

pub returns-in_default-look_wider_either-clause-grew : goal.returns-in_default-look_wider_either-clause-grew
returns-in_default-look_wider_either-clause-grew g c =
    grows-on _ _ _ c.served.ensures.grew c.look_wider_either.ensures.grew

pub returns-in_err-store_turned-clause-grew : goal.returns-in_err-store_turned-clause-grew
returns-in_err-store_turned-clause-grew g c =
    grows-on _ _ _ c.served.ensures.grew
    (grows-on _ _ _ c.look_wider_either.ensures.grew c.store_turned.ensures.grew)

pub returns-clause-grew : goal.returns-clause-grew
returns-clause-grew g c =
    grows-on _ _ _ c.served.ensures.grew
    (grows-on _ _ _ c.look_wider_either.ensures.grew
    (grows-on _ _ _ c.store_turned.ensures.grew c.served-2.ensures.grew))
