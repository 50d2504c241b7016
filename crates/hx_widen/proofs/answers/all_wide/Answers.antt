use Rattle.hx_book.proofs.SightLaws.{grows-on}
use Rattle.hx_linkset.proofs.LiveThreats.{threats-live}
use Rattle.hx_widen.proofs.answers.all_wide.Goals as goal

pub derivation-requires : goal.derivation-requires
derivation-requires g c = rw c.items.ensures (threats-live c.args.set.now c.args.found.now.threats c.requires.live)

pub returns-in_default-lines_at-clause-grew : goal.returns-in_default-lines_at-clause-grew
returns-in_default-lines_at-clause-grew g c =
    grows-on _ _ _ c.position_for.ensures.grew c.lines_at.ensures.grew

pub returns-in_err-derived-clause-grew : goal.returns-in_err-derived-clause-grew
returns-in_err-derived-clause-grew g c = grows-on _ _ _ c.position_for.ensures.grew c.lines_at.ensures.grew

pub returns-in_err-store_known-clause-grew : goal.returns-in_err-store_known-clause-grew
returns-in_err-store_known-clause-grew g c =
    grows-on _ _ _ c.position_for.ensures.grew
    (grows-on _ _ _ c.lines_at.ensures.grew c.store_known.ensures.grew)

pub returns-clause-grew : goal.returns-clause-grew
returns-clause-grew g c =
    grows-on _ _ _ c.position_for.ensures.grew
    (grows-on _ _ _ c.lines_at.ensures.grew c.store_known.ensures.grew)
