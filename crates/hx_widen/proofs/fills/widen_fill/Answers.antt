use Rattle.hx_tree.specs.Entries.{Extends}
use Rattle.hx_tree.proofs.EntryLaws.{extends-on}
use Rattle.hx_book.proofs.SightLaws.{grows-on}
use Rattle.hx_widen.proofs.KnownEntries.{wider_found-later}
use Rattle.hx_widen.proofs.WideLaws.{if_ok-served}
use Rattle.hx_widen.proofs.RefusalLaws.{if_err-unstored}
use Rattle.hx_widen.proofs.fills.widen_fill.Goals as goal

pub fill_missing-requires : goal.fill_missing-requires
fill_missing-requires g c =
    let found = (g.P.Proofs.sight c.look_wider_either.new.proofs).list in
    let wide = (g.P.Proofs.sight c.fill_wide-tried.new.proofs).list in
    let ended = (g.P.Proofs.sight c.end_of.new.proofs).list in
    let grown : Extends found ended = extends-on found wide ended c.fill_wide-tried.ensures.grew.seen c.end_of.ensures.grew.seen in
    wider_found-later ended found c.args.filled.now.position c.args.to_move c.in-Some.wider grown c.in-Some.ensures.found

pub returns-clause-served : goal.returns-clause-served
returns-clause-served g c = if_ok-served _ _ _ _ c.store_fill.result c.store_fill.ensures.stored

pub returns-in_err-end_of-clause-grew : goal.returns-in_err-end_of-clause-grew
returns-in_err-end_of-clause-grew g c =
    grows-on _ _ _ c.look_wider_either.ensures.grew
    (grows-on _ _ _ c.fill_wide-tried.ensures.grew c.end_of.ensures.grew)

pub returns-in-Done-clause-grew : goal.returns-in-Done-clause-grew
returns-in-Done-clause-grew g c =
    grows-on _ _ _ c.look_wider_either.ensures.grew
    (grows-on _ _ _ c.fill_wide-tried.ensures.grew c.end_of.ensures.grew)

pub returns-in_err-fill_missing-clause-grew : goal.returns-in_err-fill_missing-clause-grew
returns-in_err-fill_missing-clause-grew g c =
    grows-on _ _ _ c.look_wider_either.ensures.grew
    (grows-on _ _ _ c.fill_wide-tried.ensures.grew
    (grows-on _ _ _ c.end_of.ensures.grew c.fill_missing.ensures.grew))

pub returns-clause-grew : goal.returns-clause-grew
returns-clause-grew g c =
    grows-on _ _ _ c.look_wider_either.ensures.grew
    (grows-on _ _ _ c.fill_wide-tried.ensures.grew
    (grows-on _ _ _ c.end_of.ensures.grew
    (grows-on _ _ _ c.fill_missing.ensures.grew c.store_fill.ensures.grew)))

pub returns-clause-stopped : goal.returns-clause-stopped
returns-clause-stopped g c =
    if_err-unstored (g.P.Proofs.sight c.store_fill.new.proofs) _ _ c.store_fill.result c.store_fill.ensures.stopped
