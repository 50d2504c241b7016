use Rattle.std.proofs.Common.{rules}
use Rattle.hx_dfpn.proofs.KeepLaws.{keeps-itself, keeps-on, kept-may-hold}
use Rattle.hx_dfpn.proofs.rounds.Search+K+G+R+Workspace+LinkSet.rounds.Goals as goal

pub loop-init : goal.loop-init
loop-init g c = record { turns = search rules; keeps = keeps-itself _ _ }

pub round-requires : goal.round-requires
round-requires g c = kept-may-hold _ _ _ _ c.loop.invariant.keeps c.requires

pub returns-in_err-round-clause-keeps : goal.returns-in_err-round-clause-keeps
returns-in_err-round-clause-keeps g c = keeps-on _ _ _ _ c.loop.invariant.keeps c.round.ensures.keeps

pub returns-in-Proved-clause-keeps : goal.returns-in-Proved-clause-keeps
returns-in-Proved-clause-keeps g c = keeps-on _ _ _ _ c.loop.invariant.keeps c.round.ensures.keeps

pub loop-preserved : goal.loop-preserved
loop-preserved g c = record { turns = search rules; keeps = keeps-on _ _ _ _ c.loop.invariant.keeps c.round.ensures.keeps }
