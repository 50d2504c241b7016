use Rattle.std.proofs.Common.{◌≡◌, ◌∙◌, sym, subst}
use Rattle.std.proofs.lemmas.Bool.{false≢true}
use Rattle.std.proofs.lemmas.Option.{same_Some}
use Rattle.hx_link.specs.declared.links.Link.{Link}
use Rattle.hx_linkset.specs.States.{Standing, IsLive}
use Rattle.hx_linkset.proofs.sets.LinkSet.link.Goals as goal

pub returns-then-live : goal.returns-then-live
returns-then-live c =
    let P : Standing → Type 0 = λ s. IsLive s.present.board s.player c.in-Some.link in
    let tells = c.is_live-live.ensures c.self.inside.position c.self.inside.colour c.self.invariant.allowed_is in
    (sym c.held.ensures ∙ c.in-Some.is, subst P c.self.view_is (tells.0 c.if-live.true))

pub returns-else-live : goal.returns-else-live
returns-else-live c = λ link held.
    let same : link ≡ c.in-Some.link = same_Some link c.in-Some.link (sym held.0 ∙ (sym c.held.ensures ∙ c.in-Some.is)) in
    let P : Standing → Type 0 = λ s. IsLive s.present.board s.player link in
    let Q : Link → Type 0 = λ l. IsLive c.self.inside.position c.self.inside.colour l in
    let tells = c.is_live-live.ensures c.self.inside.position c.self.inside.colour c.self.invariant.allowed_is in
    false≢true (sym c.if-live.false ∙ tells.1 (subst Q same (subst P (sym c.self.view_is) held.1)))
