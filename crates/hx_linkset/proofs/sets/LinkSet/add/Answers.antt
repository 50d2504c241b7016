use Rattle.std.proofs.lemmas.Result.{IfOk-weaker}
use Rattle.hx_linkset.specs.Answers.{IsPut, IsAdded}
use Rattle.hx_linkset.proofs.GivenLaws.{from_live-live}
use Rattle.hx_linkset.proofs.PutLaws.{put-added}
use Rattle.hx_linkset.proofs.sets.LinkSet.add.Goals as goal

pub covering-requires : goal.covering-requires
covering-requires c = from_live-live _ _ _ c.args.step c.in-Some.link c.in-Some.ensures

pub put-requires : goal.put-requires
put-requires c = c.in-Some.ensures

pub returns-clause-added : goal.returns-clause-added
returns-clause-added c =
    IfOk-weaker c.put.result (IsPut _ _ c.args.step) (IsAdded _ _ c.args.step)
    (put-added _ _ c.args.step c.in-Some.link c.in-Some.ensures c.in_default-covering.ensures) c.put.ensures.put
