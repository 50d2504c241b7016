use Rattle.std.proofs.Common.{sym, ◌∙◌}
use Rattle.std.proofs.lemmas.Bool.{false≢true}
use Rattle.hx_fill.proofs.MakerLaws.{inside-joins, joins-inside, narrowed_within, narrowed_met}
use Rattle.hx_fill.proofs.makers.narrow.Goals as goal

pub returns-then-inside : goal.returns-then-inside
returns-then-inside c =
    let joined = c.joined_with-joined.ensures in
    narrowed_within _ _ _ _ _ joined _ (inside-joins _ _ _ _ _ joined (c.inside.ensures.0 c.if-inside.true))

pub returns : goal.returns
returns c =
    let joined = c.joined_with-joined.ensures in
    let extent = rw c.position.ensures at c.size-size.ensures.valid.0 in
    narrowed_met _ _ _ _ _ joined _ c.cells.result c.meet-makers.result c.meet-makers.ensures.set c.cells.ensures extent c.requires.makers
    (λ joins. false≢true (sym c.if-inside.false ∙ c.inside.ensures.1 (joins-inside _ _ _ _ _ joined c.requires.around joins)))
