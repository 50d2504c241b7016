use Rattle.std.proofs.Common.{sym, refl, ◌∙◌, eqb-true}
use Rattle.std.proofs.lemmas.Bool.{eqb-false}
use Rattle.hx_board.specs.Sets.{IsSubset}
use Rattle.hx_board.proofs.FloodLaws.{single-is_flood, grown-is_flood, grown-stays_flood, wanted-are_reached, all-are_reached}
use Rattle.hx_board.proofs.FloodLaws.{le-union, le-subset, growth_and_more-ends}
use Rattle.hx_board.proofs.floods.flood_to.Goals as goal

pub loop-wanted-init : goal.loop-wanted-init
loop-wanted-init c = rw c.single-group.ensures (single-is_flood _ _ c.own-own.ensures.valid.0 _ c.requires _ refl)

pub returns-then-inside : goal.returns-then-inside
returns-then-inside c =
    rw c.union-reach.ensures.set
    (wanted-are_reached _ _ _ _ _ c.own-own.ensures.own c.spread-near.ensures _ _ c.loop-wanted.invariant
    (rw c.union-reach.ensures.set at (c.inside.ensures.0 c.if-inside.true)))

pub returns-then-eq : goal.returns-then-eq
returns-then-eq c =
    rw c.union-reach.ensures.set
    (all-are_reached _ _ _ _ _ c.own-own.ensures.own c.spread-near.ensures
    (rw (c.union-next.ensures.set, c.meet.ensures.set) at (eqb-true _ _ (sym c.eq.ensures ∙ c.if-eq.true))) _ _ c.requires
    c.loop-wanted.invariant)

pub loop-wanted-smaller : goal.loop-wanted-smaller
loop-wanted-smaller c =
    let further : IsSubset c.union-next.result c.grown-group.result =
    λ n h. c.grown-group.ensures.kept n (c.grown-in-loop-wanted.ensures.kept n (c.grown.ensures.kept n h)) in
    growth_and_more-ends _ _ _ _ (rw c.union-next.ensures.set (le-union _ _)) (eqb-false _ _ (sym c.eq.ensures ∙ c.if-eq.false))
    (le-subset _ _ further) (rw (c.bits-bits.ensures, c.codes.ensures.value) at c.bits-bits.type_inv)

pub loop-wanted-preserved : goal.loop-wanted-preserved
loop-wanted-preserved c =
    let extent = c.own-own.ensures.valid.0 in
    grown-stays_flood _ _ extent _ _ _ c.grown-group.ensures
    (grown-stays_flood _ _ extent _ _ _ c.grown-in-loop-wanted.ensures
    (grown-stays_flood _ _ extent _ _ _ c.grown.ensures
    (rw (c.union-next.ensures.set, c.meet.ensures.set)
    (grown-is_flood _ _ _ _ _ c.own-own.ensures.own c.spread-near.ensures _ c.loop-wanted.invariant))))
