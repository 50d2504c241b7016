use Rattle.std.proofs.Common.{◌≡◌, List, refl, sym, subst}
use Rattle.hx_linkset.specs.declared.fulls.FullLink.{FullLink}
use Rattle.hx_linkset.specs.States.{Standing}
use Rattle.hx_linkset.specs.Fulls.{AreFullAt, fulls_of, live_at}
use Rattle.hx_linkset.specs.Plays.{standing}
use Rattle.hx_linkset.proofs.FullLaws.{full-at}
use Rattle.hx_linkset.proofs.sets.LinkSet.full_at.Goals as goal

pub returns : goal.returns
returns c =
    let set : Standing = standing c.self.inside.colour
    (record { board = c.self.inside.position; links = c.self.inside.links; steps = c.self.inside.steps.items })
    c.self.inside.plays.items in
    let live_is : c.new.result ≡ live_at c.self.inside.allowed.empties c.self.inside.allowed.ends c.args.vertex
    (fulls_of c.self.inside.links c.args.vertex) =
    rw (c.new.ensures, c.at-list.ensures.fulls c.self.inside.links c.self.invariant.fulls_are) refl in
    let P : Standing → Type 0 = λ s. AreFullAt s c.args.vertex c.new.result in
    let Q : List FullLink → Type 0 = λ fulls. AreFullAt set c.args.vertex fulls in
    subst P c.self.view_is
    (subst Q (sym live_is)
    (full-at set c.self.inside.allowed.empties c.self.inside.allowed.ends c.self.invariant.allowed_is.empties c.self.invariant.allowed_is.ends
    c.args.vertex c.at-list.ensures.some c.self.inside.fulls c.self.invariant.fulls_are))
