use Rattle.hx_book.proofs.SightLaws.{grows-on}
use Rattle.hx_widen.proofs.RefusalLaws.{if_err-unstored}
use Rattle.hx_widen.proofs.WideLaws.{if_ok-entry_served}
use Rattle.hx_widen.proofs.links.widen_links.Goals as goal

pub returns-in_err-end_of-clause-grew : goal.returns-in_err-end_of-clause-grew
returns-in_err-end_of-clause-grew g c = grows-on _ _ _ c.links_wide-tried.ensures.grew c.end_of.ensures.grew

pub returns-in-Done-clause-grew : goal.returns-in-Done-clause-grew
returns-in-Done-clause-grew g c = grows-on _ _ _ c.links_wide-tried.ensures.grew c.end_of.ensures.grew

pub returns-clause-grew : goal.returns-clause-grew
returns-clause-grew g c =
    grows-on _ _ _ c.links_wide-tried.ensures.grew
    (grows-on _ _ _ c.end_of.ensures.grew c.store_links.ensures.grew)

pub returns-clause-served : goal.returns-clause-served
returns-clause-served g c = if_ok-entry_served _ _ _ _ c.store_links.result c.store_links.ensures.stored

pub returns-clause-stopped : goal.returns-clause-stopped
returns-clause-stopped g c =
    if_err-unstored (g.P.Proofs.sight c.store_links.new.proofs) _ _ c.store_links.result c.store_links.ensures.stopped
