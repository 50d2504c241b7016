use Rattle.std.proofs.Common.{◌<◌, length, arith}
use Rattle.hx_reach.proofs.GrowthLaws.{grown-itself, grown-on}
use Rattle.hx_search.proofs.AndLaws.{rows-all, rows-more}
use Rattle.hx_search.proofs.ands.settle_ands.Goals as goal

pub returns-then-count-right-clause-tried : goal.returns-then-count-right-clause-tried
returns-then-count-right-clause-tried c =
    rows-all c.loop-right.set c.loop-right.right
    (omega (arith, c.count-count.ensures, c.if-count-right.true)) c.loop-right.invariant.settled

pub loop-right-preserved : goal.loop-right-preserved
loop-right-preserved c =
    let inside : c.loop-right.right < length c.loop-right.set.present.links =
    omega (arith, c.count-count.ensures, c.if-count-right.false) in
    record {
      grown = grown-on _ _ _ c.loop-right.invariant.grown c.settle_row.ensures.grown;
      settled = rows-more c.loop-right.set c.settle_row.new.set c.loop-right.right c.settle_row.ensures.grown inside
          c.loop-right.invariant.settled (rw c.in-Ok-Settled.field-0-is at c.in-Ok-Settled.ensures.tried);
    }

pub loop-right-init : goal.loop-right-init
loop-right-init c = record { grown = grown-itself c.args.set.now; settled = c.requires }

pub returns-in-Ok-Stopped-clause-tried : goal.returns-in-Ok-Stopped-clause-tried
returns-in-Ok-Stopped-clause-tried c = rw c.in-Ok-Stopped.field-0-is at c.in-Ok-Stopped.ensures.tried
