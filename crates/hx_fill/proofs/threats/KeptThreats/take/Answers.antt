use Rattle.std.proofs.Common.{sym, ◌∙◌}
use Rattle.std.proofs.lemmas.Bool.{false≢true}
use Rattle.hx_fill.proofs.ThreatLaws.{taken_more}
use Rattle.hx_fill.proofs.threats.KeptThreats.take.Goals as goal

pub returns : goal.returns
returns c =
    let link = c.requires.link in
    rw (c.push_reserved.ensures.items, c.reserve.ensures.items, c.meet-self.ensures.set)
    (taken_more c.args.set.now c.keeps.ensures.right c.args.link.now.place link.live c.args.link.now.carrier
    (link.carrier link.live.0 link.live.1.0) c.args.self.now.places.items c.args.self.now.cells
    c.requires.threats (λ inside. false≢true (sym c.if-has_all.false ∙ c.inside-has_all.ensures.1 inside)))
