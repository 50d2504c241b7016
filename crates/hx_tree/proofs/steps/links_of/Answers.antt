-- Each step gives one link more. Where one gives none, the steps give no list of links.
use Rattle.std.proofs.Common.{◌∙◌, arith}
use Rattle.hx_tree.proofs.StepGrowth.{one_link_more, no_links}
use Rattle.hx_tree.proofs.steps.links_of.Goals as goal

pub returns-in-None-clause-links : goal.returns-in-None-clause-links
returns-in-None-clause-links c =
    no_links c.args.position.now c.args.colour c.args.steps.now c.loop-step.step-index c.step-item.result c.loop-step.links.items
    c.loop-step-test.true c.step-item.is c.loop-step.invariant.right (rw c.as_slice.ensures.value at c.in-None.ensures)

pub loop-step-preserved : goal.loop-step-preserved
loop-step-preserved c = record {
  right = rw c.push_reserved.ensures.items
      (one_link_more c.args.position.now c.args.colour c.args.steps.now c.loop-step.step-index c.step-item.result c.loop-step.links.items
      c.loop-step-test.true c.step-item.is c.loop-step.invariant.right c.in-Some.link (rw c.as_slice.ensures.value at c.in-Some.ensures));
  count = omega (arith, c.push_reserved.ensures.len);
  room = c.push_reserved.ensures.capacity ∙ c.loop-step.invariant.room;
}
