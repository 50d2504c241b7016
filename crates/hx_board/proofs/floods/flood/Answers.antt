use Rattle.std.proofs.Common.{sym, refl, ◌∙◌, eqb-true}
use Rattle.std.proofs.lemmas.Bool.{eqb-false}
use Rattle.hx_board.proofs.FloodLaws.{single-is_flood, grown-is_flood, flood-is, le-union, growth-ends}
use Rattle.hx_board.proofs.floods.flood.Goals as goal

pub loop-own-init : goal.loop-own-init
loop-own-init c = rw c.single-group.ensures (single-is_flood _ _ c.own-own.ensures.valid.0 _ c.requires _ refl)

pub loop-own-preserved : goal.loop-own-preserved
loop-own-preserved c =
    rw (c.union-next.ensures.set, c.meet.ensures.set)
    (grown-is_flood _ _ _ _ _ c.own-own.ensures.own c.spread-near.ensures _ c.loop-own.invariant)

pub loop-own-smaller : goal.loop-own-smaller
loop-own-smaller c =
    growth-ends _ _ _ (rw c.union-next.ensures.set (le-union _ _)) (eqb-false _ _ (sym c.eq.ensures ∙ c.if-eq.false))
    (rw (c.bits-bits.ensures, c.codes.ensures.value) at c.bits-bits.type_inv)

pub returns-then-eq : goal.returns-then-eq
returns-then-eq c =
    rw c.union.ensures.set
    (flood-is _ _ _ _ _ c.own-own.ensures.own c.spread-near.ensures
    (rw (c.union-next.ensures.set, c.meet.ensures.set) at (eqb-true _ _ (sym c.eq.ensures ∙ c.if-eq.true))) _ c.requires
    c.loop-own.invariant)
