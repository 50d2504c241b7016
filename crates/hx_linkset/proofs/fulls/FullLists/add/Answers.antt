use Rattle.hx_linkset.proofs.FullListLaws.{lists-semi}
use Rattle.hx_linkset.proofs.fulls.FullLists.add.Goals as goal

pub returns-in-Semi-clause-ok : goal.returns-in-Semi-clause-ok
returns-in-Semi-clause-ok c = λ links index_is are. lists-semi links c.args.link.now c.args.self.now are c.in-Semi.is
