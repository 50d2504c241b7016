use Rattle.std.proofs.Common.{sym, ◌∙◌}
use Rattle.std.proofs.lemmas.Bool.{false≢true}
use Rattle.hx_book.proofs.SightLaws.{grows-on}
use Rattle.hx_widen.proofs.WideLaws.{if_ok-served}
use Rattle.hx_widen.proofs.RefusalLaws.{if_err-unstored}
use Rattle.hx_widen.proofs.answers.widen_all.Goals as goal

pub store_each-requires : goal.store_each-requires
store_each-requires g c =
    λ cell member. rw c.position-2.ensures
    ((c.in_ok-found.ensures.must.shared cell).0 (c.without_lines-cells.ensures.inside cell member)).empty

pub store_answers-requires-clause-no_lines : goal.store_answers-requires-clause-no_lines
store_answers-requires-clause-no_lines g c = λ plain. absurd (false≢true (sym c.if-plain.false ∙ c.plain.ensures ∙ plain))

pub returns-clause-served : goal.returns-clause-served
returns-clause-served g c = if_ok-served _ _ _ _ c.store_answers.result c.store_answers.ensures.stored

pub returns-in_err-end_of-clause-grew : goal.returns-in_err-end_of-clause-grew
returns-in_err-end_of-clause-grew g c = grows-on _ _ _ c.all_wide-tried.ensures.grew c.end_of.ensures.grew

pub returns-in-Done-clause-grew : goal.returns-in-Done-clause-grew
returns-in-Done-clause-grew g c = grows-on _ _ _ c.all_wide-tried.ensures.grew c.end_of.ensures.grew

pub returns-in_err-store_each-clause-grew : goal.returns-in_err-store_each-clause-grew
returns-in_err-store_each-clause-grew g c =
    grows-on _ _ _ c.all_wide-tried.ensures.grew
    (grows-on _ _ _ c.end_of.ensures.grew c.store_each.ensures.grew)

pub returns-clause-grew : goal.returns-clause-grew
returns-clause-grew g c =
    grows-on _ _ _ c.all_wide-tried.ensures.grew
    (grows-on _ _ _ c.end_of.ensures.grew
    (grows-on _ _ _ c.store_each.ensures.grew c.store_answers.ensures.grew))

pub returns-clause-stopped : goal.returns-clause-stopped
returns-clause-stopped g c =
    if_err-unstored (g.P.Proofs.sight c.store_answers.new.proofs) _ _ c.store_answers.result c.store_answers.ensures.stopped
