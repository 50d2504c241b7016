use Rattle.hx_dfpn.proofs.known_moves.Search+K+G+R+Workspace+LinkSet.leave_out_siblings.Goals as goal

pub returns : goal.returns
returns g c = record { keeps = c.refuted_with-refuted.ensures.keeps }
