use Rattle.hx_book.proofs.SightLaws.{grows-on}
use Rattle.hx_widen.proofs.KnownEntries.{wider_found-told}
use Rattle.hx_widen.proofs.wider.store_wider.Goals as goal

pub fill_missing-requires : goal.fill_missing-requires
fill_missing-requires g c =
    wider_found-told g.P.Proofs.is_plain (g.P.Proofs.sight c.look_wider.new.self).list c.args.position.now c.args.to_move c.args.winner
    c.in-Some-look_wider.wider c.in-Some-look_wider.ensures.found

pub returns-in_default-look_wider-clause-grew : goal.returns-in_default-look_wider-clause-grew
returns-in_default-look_wider-clause-grew g c = grows-on _ _ _ c.look.ensures.grew c.look_wider.ensures.grew

pub returns-in_err-fill_missing-clause-grew : goal.returns-in_err-fill_missing-clause-grew
returns-in_err-fill_missing-clause-grew g c =
    grows-on _ _ _ c.look.ensures.grew
    (grows-on _ _ _ c.look_wider.ensures.grew c.fill_missing.ensures.grew)

pub returns-clause-grew : goal.returns-clause-grew
returns-clause-grew g c =
    grows-on _ _ _ c.look.ensures.grew
    (grows-on _ _ _ c.look_wider.ensures.grew c.fill_missing.ensures.grew)
