use Rattle.hx_tree.specs.Entries.{Extends}
use Rattle.hx_tree.proofs.EntryLaws.{extends-on}
use Rattle.hx_book.proofs.SightLaws.{grows-on}
use Rattle.hx_widen.proofs.KnownEntries.{wider_found-told, wider_found-later}
use Rattle.hx_widen.proofs.WideLaws.{if_ok-served}
use Rattle.hx_widen.proofs.RefusalLaws.{if_err-unstored}
use Rattle.hx_widen.proofs.moves.widen_move.Goals as goal

pub fill_missing-requires : goal.fill_missing-requires
fill_missing-requires g c =
    let looked = (g.P.Proofs.sight c.look_wider.new.self).list in
    let wide = (g.P.Proofs.sight c.move_wide-tried.new.proofs).list in
    let ended = (g.P.Proofs.sight c.end_of.new.proofs).list in
    let wider = c.in-Some.wider in
    let grown : Extends looked ended = extends-on looked wide ended c.move_wide-tried.ensures.grew.seen c.end_of.ensures.grew.seen in
    wider_found-later ended looked c.with-next.result c.other-other.result wider grown
    (wider_found-told g.P.Proofs.is_plain looked c.with-next.result c.other-other.result c.args.to_move wider c.in-Some.ensures.found)

pub returns-clause-served : goal.returns-clause-served
returns-clause-served g c = if_ok-served _ _ _ _ c.store_move.result c.store_move.ensures.stored

pub returns-in_err-end_of-clause-grew : goal.returns-in_err-end_of-clause-grew
returns-in_err-end_of-clause-grew g c =
    grows-on _ _ _ c.look_wider.ensures.grew
    (grows-on _ _ _ c.move_wide-tried.ensures.grew c.end_of.ensures.grew)

pub returns-in-Done-clause-grew : goal.returns-in-Done-clause-grew
returns-in-Done-clause-grew g c =
    grows-on _ _ _ c.look_wider.ensures.grew
    (grows-on _ _ _ c.move_wide-tried.ensures.grew c.end_of.ensures.grew)

pub returns-in_err-fill_missing-clause-grew : goal.returns-in_err-fill_missing-clause-grew
returns-in_err-fill_missing-clause-grew g c =
    grows-on _ _ _ c.look_wider.ensures.grew
    (grows-on _ _ _ c.move_wide-tried.ensures.grew
    (grows-on _ _ _ c.end_of.ensures.grew c.fill_missing.ensures.grew))

pub returns-clause-grew : goal.returns-clause-grew
returns-clause-grew g c =
    grows-on _ _ _ c.look_wider.ensures.grew
    (grows-on _ _ _ c.move_wide-tried.ensures.grew
    (grows-on _ _ _ c.end_of.ensures.grew
    (grows-on _ _ _ c.fill_missing.ensures.grew c.store_move.ensures.grew)))

pub returns-clause-stopped : goal.returns-clause-stopped
returns-clause-stopped g c =
    if_err-unstored (g.P.Proofs.sight c.store_move.new.proofs) _ _ c.store_move.result c.store_move.ensures.stopped
