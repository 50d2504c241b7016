use Rattle.std.proofs.Common.{ℕ, ◌≤◌, length, sym, subst, arith}
use Rattle.hx_linkset.specs.States.{Standing, IsRight}
use Rattle.hx_search.specs.Progress.{AreBasesBelow, AreRowsSettled}
use Rattle.hx_reach.proofs.GrowthLaws.{grown-itself, grown-on}
use Rattle.hx_search.proofs.BaseLaws.{below-on}
use Rattle.hx_search.proofs.AndLaws.{rows-on}
use Rattle.hx_search.proofs.ClosedLaws.{closed-by}
use Rattle.hx_search.proofs.closures.add_all.Goals as goal

pub returns-in-Ok-Same-clause-tried : goal.returns-in-Ok-Same-clause-tried
returns-in-Ok-Same-clause-tried c =
    let passed = rw c.in-Ok-Same.field-0-is at c.in-Ok-Same.ensures.passed in
    let bases : AreBasesBelow c.settle_ands.new.set 123 =
    below-on c.loop-set.set c.settle_ands.new.set c.settle_ands.ensures.grown 123 c.loop-set.invariant.bases in
    let rows : AreRowsSettled c.settle_ands.new.set (length c.settle_ands.new.set.present.links) =
    rw c.in-Ok-Settled-settle_ands.field-0-is at c.in-Ok-Settled-settle_ands.ensures.tried in
    let P : Standing → Type 0 = λ s. AreBasesBelow s 123 in
    let R : Standing → Type 0 = λ s. IsRight s.player s.present in
    let Q : Standing → Type 0 = λ s. AreRowsSettled s (length s.present.links) in
    closed-by c.join_all.new.set (subst R (sym passed.0) c.keeps.ensures.right) (subst P (sym passed.0) bases)
    (subst Q (sym passed.0) rows) passed.1

pub loop-set-preserved : goal.loop-set-preserved
loop-set-preserved c =
    let bases : AreBasesBelow c.settle_ands.new.set 123 =
    below-on c.loop-set.set c.settle_ands.new.set c.settle_ands.ensures.grown 123 c.loop-set.invariant.bases in
    let rows : AreRowsSettled c.settle_ands.new.set (length c.settle_ands.new.set.present.links) =
    rw c.in-Ok-Settled-settle_ands.field-0-is at c.in-Ok-Settled-settle_ands.ensures.tried in
    let some : c.count-settled.result ≤ length c.settle_ands.new.set.present.links = omega (arith, c.count-settled.ensures) in
    let P : ℕ → Type 0 = λ n. AreRowsSettled c.settle_ands.new.set n in
    record {
      grown = grown-on _ _ _ c.loop-set.invariant.grown (grown-on _ _ _ c.settle_ands.ensures.grown c.join_all.ensures.grown);
      bases = below-on c.settle_ands.new.set c.join_all.new.set c.join_all.ensures.grown 123 bases;
      rows = rows-on c.settle_ands.new.set c.join_all.new.set c.count-settled.result c.join_all.ensures.grown some
          (subst P (sym c.count-settled.ensures) rows);
    }

pub returns-in-Err-clause-grown : goal.returns-in-Err-clause-grown
returns-in-Err-clause-grown c = c.add_all_useful.ensures

pub returns-in-Ok-Stopped-clause-grown : goal.returns-in-Ok-Stopped-clause-grown
returns-in-Ok-Stopped-clause-grown c = grown-on _ _ _ c.add_all_useful.ensures c.settle_bases.ensures.grown

pub returns-in-Ok-Stopped-clause-tried : goal.returns-in-Ok-Stopped-clause-tried
returns-in-Ok-Stopped-clause-tried c = rw c.in-Ok-Stopped.field-0-is at c.in-Ok-Stopped.ensures.tried

pub returns-in-Err-settle_bases-clause-grown : goal.returns-in-Err-settle_bases-clause-grown
returns-in-Err-settle_bases-clause-grown c = grown-on _ _ _ c.add_all_useful.ensures c.settle_bases.ensures.grown

pub loop-set-init : goal.loop-set-init
loop-set-init c =
    record {
      grown = grown-itself c.settle_bases.new.set;
      bases = rw c.in-Ok-Settled.field-0-is at c.in-Ok-Settled.ensures.tried;
      rows = λ left right less small. absurd (omega (arith, small));
    }

pub returns-in-Ok-Stopped-settle_ands-clause-grown : goal.returns-in-Ok-Stopped-settle_ands-clause-grown
returns-in-Ok-Stopped-settle_ands-clause-grown c =
    let before = grown-on _ _ _ c.add_all_useful.ensures c.settle_bases.ensures.grown in
    grown-on _ _ _ before (grown-on _ _ _ c.loop-set.invariant.grown c.settle_ands.ensures.grown)

pub returns-in-Ok-Stopped-settle_ands-clause-tried : goal.returns-in-Ok-Stopped-settle_ands-clause-tried
returns-in-Ok-Stopped-settle_ands-clause-tried c = rw c.in-Ok-Stopped-settle_ands.field-0-is at c.in-Ok-Stopped-settle_ands.ensures.tried

pub returns-in-Err-settle_ands-clause-grown : goal.returns-in-Err-settle_ands-clause-grown
returns-in-Err-settle_ands-clause-grown c =
    let before = grown-on _ _ _ c.add_all_useful.ensures c.settle_bases.ensures.grown in
    grown-on _ _ _ before (grown-on _ _ _ c.loop-set.invariant.grown c.settle_ands.ensures.grown)

pub returns-in-Ok-Same-clause-grown : goal.returns-in-Ok-Same-clause-grown
returns-in-Ok-Same-clause-grown c =
    let before = grown-on _ _ _ c.add_all_useful.ensures c.settle_bases.ensures.grown in
    grown-on _ _ _ before (grown-on _ _ _ c.loop-set.invariant.grown (grown-on _ _ _ c.settle_ands.ensures.grown c.join_all.ensures.grown))

pub loop-set-smaller : goal.loop-set-smaller
loop-set-smaller c =
    let passed = rw c.in-Ok-More.field-0-is at c.in-Ok-More.ensures.passed in
    omega (arith, c.keeps.ensures.few, c.settle_ands.ensures.grown.longer, passed)

pub returns-in-Ok-Full-clause-grown : goal.returns-in-Ok-Full-clause-grown
returns-in-Ok-Full-clause-grown c =
    let before = grown-on _ _ _ c.add_all_useful.ensures c.settle_bases.ensures.grown in
    grown-on _ _ _ before (grown-on _ _ _ c.loop-set.invariant.grown (grown-on _ _ _ c.settle_ands.ensures.grown c.join_all.ensures.grown))

pub returns-in-Ok-Full-clause-tried : goal.returns-in-Ok-Full-clause-tried
returns-in-Ok-Full-clause-tried c = rw c.in-Ok-Full.field-0-is at c.in-Ok-Full.ensures.passed

pub returns-in-Err-join_all-clause-grown : goal.returns-in-Err-join_all-clause-grown
returns-in-Err-join_all-clause-grown c =
    let before = grown-on _ _ _ c.add_all_useful.ensures c.settle_bases.ensures.grown in
    grown-on _ _ _ before (grown-on _ _ _ c.loop-set.invariant.grown (grown-on _ _ _ c.settle_ands.ensures.grown c.join_all.ensures.grown))
