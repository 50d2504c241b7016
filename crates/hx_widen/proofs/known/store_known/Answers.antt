use Rattle.std.proofs.Common.{rules, sym, ◌∙◌}
use Rattle.std.proofs.lemmas.Bool.{false≢true}
use Rattle.hx_tree.specs.Rules.{IsRightNode}
use Rattle.hx_widen.proofs.KnownEntries.{child_known, known_right, known_length}
use Rattle.hx_widen.proofs.known.store_known.Goals as goal

pub renamed-named-requires : goal.renamed-named-requires
renamed-named-requires g c = λ child names.
    let right : IsRightNode c.args.known.now.headings.items c.args.node = search rules in
    rw (c.as_slice-2.ensures.value, known_length (g.P.Proofs.sight c.args.proofs.now).list _ _ c.requires)
    (child_known (g.P.Proofs.sight c.args.proofs.now).list c.args.known.now.headings.items c.args.node child right names)

pub store-requires-clause-right : goal.store-requires-clause-right
store-requires-clause-right g c =
    let right : IsRightNode c.args.known.now.headings.items c.args.node = search rules in
    rw (c.renamed-named.ensures, c.as_slice-2.ensures.value)
    (known_right (g.P.Proofs.sight c.args.proofs.now).list c.args.known.now.headings.items c.args.known.now.places.items c.args.node
    c.requires right)

pub store-requires-clause-plain : goal.store-requires-clause-plain
store-requires-clause-plain g c = λ plain. absurd (false≢true (sym c.if-plain.false ∙ c.plain.ensures ∙ plain))
