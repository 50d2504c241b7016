use Rattle.hx_dfpn.proofs.KeepLaws.{keeps-known, keeps-on, keeps-seat, kept-may-hold}
use Rattle.hx_dfpn.proofs.rounds.Search+K+G+R+Workspace+LinkSet.round.Goals as goal

pub returns-in_err-_outcome-clause-keeps : goal.returns-in_err-_outcome-clause-keeps
returns-in_err-_outcome-clause-keeps g c = c.visit_granted.ensures.keeps

pub returns-in_err-settle-clause-keeps : goal.returns-in_err-settle-clause-keeps
returns-in_err-settle-clause-keeps g c =
    keeps-on _ _ _ _ c.visit_granted.ensures.keeps (keeps-known _ _ _ c.settle.ensures.goes)

pub returns-in-Proved-clause-keeps : goal.returns-in-Proved-clause-keeps
returns-in-Proved-clause-keeps g c =
    keeps-on _ _ _ _ c.visit_granted.ensures.keeps (keeps-known _ _ _ c.settle.ensures.goes)

pub ask-requires : goal.ask-requires
ask-requires g c = (kept-may-hold _ _ _ _ c.visit_granted.ensures.keeps c.requires).made

pub returns-in_err-ask-in-Nothing-clause-keeps : goal.returns-in_err-ask-in-Nothing-clause-keeps
returns-in_err-ask-in-Nothing-clause-keeps g c =
    keeps-on _ _ _ _ (keeps-on _ _ _ _ c.visit_granted.ensures.keeps (keeps-known _ _ _ c.settle.ensures.goes)) (keeps-seat _ _ _ c.ask.ensures.seat)

pub returns-in_ok-ask-in-Nothing-clause-keeps : goal.returns-in_ok-ask-in-Nothing-clause-keeps
returns-in_ok-ask-in-Nothing-clause-keeps g c =
    keeps-on _ _ _ _ (keeps-on _ _ _ _ c.visit_granted.ensures.keeps (keeps-known _ _ _ c.settle.ensures.goes)) (keeps-seat _ _ _ c.ask.ensures.seat)
