use Rattle.hx_dfpn.proofs.KeepLaws.{keeps-itself}
use Rattle.hx_dfpn.proofs.visits.Search+K+G+R+Workspace+LinkSet.conclude.Goals as goal
use Rattle.hx_dfpn.proofs.visits.Search+K+G+R+Workspace+LinkSet.conclude.Goals.{in-Proved+in_ok-concluded-in-Proved, in-Open}

pub returns-in_err-concluded-in-Proved-clause-keeps : goal.returns-in_err-concluded-in-Proved-clause-keeps
returns-in_err-concluded-in-Proved-clause-keeps g c = c.by_fill.ensures.keeps

pub returns-clause-keeps : goal.returns-clause-keeps
returns-clause-keeps g c =
    elim c.match-outcome.branch [
      | in-Proved+in_ok-concluded-in-Proved w ↦ rw w.self-is w.by_fill.ensures.keeps
      | in-Open w ↦ rw w.self-is (keeps-itself _ c.args.self.now)
    ]
