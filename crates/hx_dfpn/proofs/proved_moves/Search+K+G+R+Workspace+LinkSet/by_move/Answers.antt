use Rattle.hx_dfpn.proofs.KeepLaws.{keeps-on}
use Rattle.hx_dfpn.proofs.proved_moves.Search+K+G+R+Workspace+LinkSet.by_move.Goals as goal

pub returns-clause-keeps : goal.returns-clause-keeps
returns-clause-keeps g c = keeps-on _ _ _ _ c.win_by.ensures.keeps c.leave_out_siblings.ensures.keeps
