use Rattle.hx_linkset.proofs.sets.LinkSet.add_unlooked.Goals as goal

pub put-requires : goal.put-requires
put-requires c = c.in-Some.ensures
