use Rattle.std.proofs.Common.{◌≡◌, ◌-◌, [], ◌∷◌, Some, None, sym, ◌∙◌, rules}
use Rattle.hx_link.specs.declared.links.Kind.TheVariants.{Full, Semi}
use Rattle.hx_linkset.specs.LivePairs.{lower_of, pairs_from}
use Rattle.hx_linkset.proofs.PairLaws.{pairs-none, pairs-end, pairs-full, pairs-semi}
use Rattle.hx_linkset.proofs.pairs.PairIterIterator.next.Goals as goal

pub returns-then-self-eq0-clause-steps : goal.returns-then-self-eq0-clause-steps
returns-then-self-eq0-clause-steps c =
    let none : c.args.self.now ≡ [] = sym c.self.view_is ∙ pairs-none _ _ _ _ c.if-self-eq0.true in
    (none, none)

pub returns-in_default-clause-steps : goal.returns-in_default-clause-steps
returns-in_default-clause-steps c =
    let lower : lower_of c.self.inside.full c.self.inside.semi ≡ None = cc in
    let none : c.args.self.now ≡ [] = sym c.self.view_is ∙ pairs-end _ _ _ _ 0 c.if-self-eq0.false lower in
    (none, none)

pub returns-in-Full-clause-steps : goal.returns-in-Full-clause-steps
returns-in-Full-clause-steps c =
    let lower : lower_of c.self.inside.full c.self.inside.semi ≡ Some Full = cc in
    sym c.self.view_is ∙ pairs-full _ _ _ _ _ c.if-self-eq0.false lower c.after_any-self-inside.ensures

pub returns-in-Full-clause-goes : goal.returns-in-Full-clause-goes
returns-in-Full-clause-goes c =
    let lower : lower_of c.self.inside.full c.self.inside.semi ≡ Some Full = cc in
    let steps : c.args.self.now
    ≡ (c.self.inside.full - 30258) ∷ pairs_from c.self.inside.chains.now.next
    (c.self.inside.left - 1) c.after_any-self-inside.result c.self.inside.semi =
    sym c.self.view_is ∙ pairs-full _ _ _ _ _ c.if-self-eq0.false lower c.after_any-self-inside.ensures in
    rw steps (search rules)

pub returns-in-Semi-clause-steps : goal.returns-in-Semi-clause-steps
returns-in-Semi-clause-steps c =
    let lower : lower_of c.self.inside.full c.self.inside.semi ≡ Some Semi = cc in
    sym c.self.view_is ∙ pairs-semi _ _ _ _ _ c.if-self-eq0.false lower c.after_any-self-inside-in-Semi.ensures

pub returns-in-Semi-clause-goes : goal.returns-in-Semi-clause-goes
returns-in-Semi-clause-goes c =
    let lower : lower_of c.self.inside.full c.self.inside.semi ≡ Some Semi = cc in
    let steps : c.args.self.now
    ≡ (c.self.inside.semi - 30258) ∷ pairs_from c.self.inside.chains.now.next
    (c.self.inside.left - 1) c.self.inside.full c.after_any-self-inside-in-Semi.result =
    sym c.self.view_is ∙ pairs-semi _ _ _ _ _ c.if-self-eq0.false lower c.after_any-self-inside-in-Semi.ensures in
    rw steps (search rules)
