use Rattle.hx_dfpn.proofs.KeepLaws.{grown-stands, keeps-others, keeps-known, keeps-on}
use Rattle.hx_dfpn.proofs.looks.Search+K+G+R+Workspace+LinkSet.by_others_links.Goals as goal

pub returns-in_err-index-clause-keeps : goal.returns-in_err-index-clause-keeps
returns-in_err-index-clause-keeps g c = keeps-others _ _ _ _ (grown-stands _ _ c.reach_with.ensures.grown)

pub returns-in_err-by_link-in-Decided-clause-keeps : goal.returns-in_err-by_link-in-Decided-clause-keeps
returns-in_err-by_link-in-Decided-clause-keeps g c =
    keeps-on _ _ _ _ (keeps-others _ _ _ _ (grown-stands _ _ c.reach_with.ensures.grown)) (keeps-known _ _ _ c.by_link.ensures.goes)

pub returns-in_ok-by_link-in-Decided-clause-keeps : goal.returns-in_ok-by_link-in-Decided-clause-keeps
returns-in_ok-by_link-in-Decided-clause-keeps g c =
    keeps-on _ _ _ _ (keeps-others _ _ _ _ (grown-stands _ _ c.reach_with.ensures.grown)) (keeps-known _ _ _ c.by_link.ensures.goes)

pub returns-in-Open-clause-keeps : goal.returns-in-Open-clause-keeps
returns-in-Open-clause-keeps g c = keeps-others _ _ _ _ (grown-stands _ _ c.reach_with.ensures.grown)
