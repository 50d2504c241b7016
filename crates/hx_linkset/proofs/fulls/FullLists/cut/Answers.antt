use Rattle.hx_linkset.proofs.FullListLaws.{cut-semi}
use Rattle.hx_linkset.proofs.fulls.FullLists.cut.Goals as goal

pub returns-in-Semi : goal.returns-in-Semi
returns-in-Semi c = λ links are. cut-semi links c.args.link.now c.args.self.now are c.in-Semi.is
