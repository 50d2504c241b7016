use Rattle.std.proofs.Common.{◌≡◌, ◌∙◌, ap, sym, subst}
use Rattle.std.proofs.lemmas.Bool.{false≢true}
use Rattle.hx_board.specs.Sets.{has, IsSubset}
use Rattle.hx_link.specs.declared.links.Link.{Link}
use Rattle.hx_link.specs.Steps.{StepGives}
use Rattle.hx_link.proofs.OneLink.{step-unique}
use Rattle.hx_linkset.specs.States.{Standing, IsLive, GivesFromLive}
use Rattle.hx_linkset.specs.Answers.{Gives}
use Rattle.hx_linkset.proofs.GivenLaws.{given-from_live, from_live-live}
use Rattle.hx_linkset.proofs.sets.LinkSet.given.Goals as goal

pub returns-then-live : goal.returns-then-live
returns-then-live c =
    let P : Standing → Type 0 = λ s. Gives s c.args.step.now c.in-Some.link in
    let g : StepGives c.self.inside.position c.self.inside.colour c.self.inside.links c.args.step.now c.in-Some.link =
    rw c.as_slice.ensures at c.in-Some.ensures in
    subst P c.self.view_is
    (given-from_live c.self.inside.position c.self.inside.colour c.self.inside.links c.args.step.now c.in-Some.link
    c.size-size.ensures.valid.1 g
    (record {
      empty = λ cell h. (c.self.invariant.allowed_is.empties cell).0 (c.inside-live.ensures.0 c.if-live.true cell h);
      a_end = g.link_ok.a_end;
      b_end = g.link_ok.b_end;
    }))

pub returns-else-live : goal.returns-else-live
returns-else-live c = λ link gives.
    let P : Standing → Type 0 = λ s. Gives s c.args.step.now link in
    let here : GivesFromLive c.self.inside.position c.self.inside.colour c.self.inside.links c.args.step.now link =
    subst P (sym c.self.view_is) gives in
    let g : StepGives c.self.inside.position c.self.inside.colour c.self.inside.links c.args.step.now c.in-Some.link =
    rw c.as_slice.ensures at c.in-Some.ensures in
    let same : link ≡ c.in-Some.link = step-unique _ _ _ link c.in-Some.link c.args.step.now here.gives g in
    let live : IsLive c.self.inside.position c.self.inside.colour link = from_live-live _ _ _ c.args.step.now link here in
    let inside : IsSubset c.in-Some.link.carrier c.self.inside.allowed.empties =
    λ cell h. (c.self.invariant.allowed_is.empties cell).1 (live.empty cell (ap (λ (l : Link). has l.carrier cell) same ∙ h)) in
    false≢true (sym c.if-live.false ∙ c.inside-live.ensures.1 inside)
