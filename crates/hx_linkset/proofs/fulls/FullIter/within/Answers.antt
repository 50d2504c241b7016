use Rattle.std.proofs.Common.{List, ap, ◌∙◌}
use Rattle.std.specs.Prelude.{filter}
use Rattle.hx_linkset.specs.declared.fulls.FullLink.{FullLink}
use Rattle.hx_linkset.specs.Fulls.{is_live_from}
use Rattle.hx_linkset.proofs.FullWithinLaws.{live_from-within}
use Rattle.hx_linkset.proofs.fulls.FullIter.within.Goals as goal

pub returns : goal.returns
returns c =
    rw (c.meet.ensures.set, c.meet-2.ensures.set)
    (live_from-within c.self.inside.empties c.self.inside.ends c.args.cells c.args.to c.self.inside.rest.now
    ∙ ap (λ (fulls : List FullLink). filter (is_live_from c.args.cells c.args.to) fulls) c.self.view_is)
