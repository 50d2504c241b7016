use Rattle.std.proofs.Common.{◌≡◌, arith, Some, None, sym, ◌∙◌}
use Rattle.std.proofs.lemmas.Bool.{false≢true}
use Rattle.std.proofs.lemmas.Option.{slice_get-get_or}
use Rattle.hx_link.specs.declared.links.Link.{Link}
use Rattle.hx_link.proofs.PartLaws.{or-first, no_or-parts, no_or-shared, or-made}
use Rattle.hx_link.proofs.ors.or_link.Goals as goal

none≢some : (l : Link) → None ≡ Some l → ⊥
none≢some l e = cc

pub returns-in_default : goal.returns-in_default
returns-in_default c = λ board colour allowed link g.
    let w = or-first _ _ link g.rule _ (slice_get-get_or c.args.places.now 0 0 (omega arith)) in none≢some w.0 (c.in_default.ensures ∙ w.1)

pub returns-in_default-read_parts : goal.returns-in_default-read_parts
returns-in_default-read_parts c = λ board colour allowed link g.
    no_or-parts _ _ _ c.in-Some.first (slice_get-get_or c.args.places.now 0 0 (omega arith))
    (sym c.in-Some.ensures) c.in_default-read_parts.ensures link g.rule

pub returns-then-not-none_shared : goal.returns-then-not-none_shared
returns-then-not-none_shared c = λ board colour allowed link g.
    no_or-shared _ _ _ c.in-Some.first (slice_get-get_or c.args.places.now 0 0 (omega arith))
    (sym c.in-Some.ensures) _ _ c.in-Some-read_parts.ensures
    (λ e. false≢true (sym c.if-not-none_shared.true ∙ c.is_empty-none_shared.ensures.empty.1 e)) link g.rule

pub returns : goal.returns
returns c = λ board colour allowed. or-made _ _ _ c.in-Some.first (slice_get-get_or c.args.places.now 0 0 (omega arith))
    (sym c.in-Some.ensures) _ _ c.in-Some-read_parts.ensures _ _ _
    (c.is_empty-none_shared.ensures.empty.0 c.if-not-none_shared.false) c.if-count-lt2.false c.if-count-gt-MOST_PARTS.false (c.made.ensures board colour allowed)
