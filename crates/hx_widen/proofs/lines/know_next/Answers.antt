use Rattle.hx_tree.proofs.EntryLaws.{extends-on}
use Rattle.hx_book.proofs.SightLaws.{grows-on}
use Rattle.hx_widen.proofs.KnownEntries.{known_grown, found_known}
use Rattle.hx_widen.proofs.lines.know_next.Goals as goal

pub returns-in-Ok-clause-known : goal.returns-in-Ok-clause-known
returns-in-Ok-clause-known g c =
    let list = (g.P.Proofs.sight c.look.new.self).list in
    c.in-Ok.ensures.known list
    (known_grown list (g.P.Proofs.sight c.args.proofs.now).list
    (extends-on _ _ _ c.store_wider-stored.ensures.grew.seen c.look.ensures.grew.seen) _ _ c.requires)
    (found_known list c.args.next.now c.args.winner c.in-Some.found c.in-Some.ensures.found)

pub returns-in_default-clause-grew : goal.returns-in_default-clause-grew
returns-in_default-clause-grew g c = grows-on _ _ _ c.store_wider-stored.ensures.grew c.look.ensures.grew

pub returns-in-Ok-clause-grew : goal.returns-in-Ok-clause-grew
returns-in-Ok-clause-grew g c = grows-on _ _ _ c.store_wider-stored.ensures.grew c.look.ensures.grew

pub returns-clause-grew : goal.returns-clause-grew
returns-clause-grew g c = grows-on _ _ _ c.store_wider-stored.ensures.grew c.look.ensures.grew
