use Rattle.hx_dfpn.proofs.KeepLaws.{keeps-itself, keeps-known}
use Rattle.hx_dfpn.proofs.known_moves.Search+K+G+R+Workspace+LinkSet.refuted_with.Goals as goal

pub returns-then-not-is_empty : goal.returns-then-not-is_empty
returns-then-not-is_empty g c = record { keeps = keeps-itself _ _ }

pub returns : goal.returns
returns g c = record { keeps = keeps-known _ _ _ c.refuted_with.ensures.goes }
