use Rattle.hx_fill.proofs.ThreatLaws.{threats_none, in_none, in_first-more, all_taken}
use Rattle.hx_fill.proofs.threats.threats_of.Goals as goal

pub loop-link-init : goal.loop-link-init
loop-link-init c = record {
  threats = rw c.new.ensures.items
      (threats_none c.args.set.now c.keeps.ensures.right c.empties.result (rw c.position.ensures at c.empties.ensures));
  seen = in_none c.args.set.now c.as_slice-link-items.result.now c.empties.result;
}

pub take-requires-clause-link : goal.take-requires-clause-link
take-requires-clause-link c =
    let between = rw (← c.as_slice-link-items.ensures.value) at c.in_ok-links.ensures in
    rw (c.link-item.is) (between.each c.loop-link.link-index c.link-item.result c.loop-link-test.true)

pub loop-link-preserved : goal.loop-link-preserved
loop-link-preserved c = record {
  threats = c.in_ok-take.ensures.threats;
  seen = in_first-more c.args.set.now c.as_slice-link-items.result.now c.loop-link.link-index c.loop-link.found.cells c.take.new.self.cells
      c.link-item.result c.take.new.self.places.items
      c.loop-link-test.true c.link-item.is c.loop-link.invariant.seen c.in_ok-take.ensures;
}

pub returns : goal.returns
returns c = all_taken c.args.set.now c.as_slice-link-items.result.now c.loop-link.link-index c.loop-link.found.places.items
    c.loop-link.found.cells
    (rw (← c.as_slice-link-items.ensures.value) at c.in_ok-links.ensures) c.loop-link-test.false c.loop-link.invariant.threats
    c.loop-link.invariant.seen
