use Rattle.std.proofs.Common.{◌∙◌, arith}
use Rattle.hx_tree.proofs.StepGrowth.{one_link_more, no_links}
use Rattle.hx_play.proofs.stands.read_links.Goals as goal

pub unreachable-requires : goal.unreachable-requires
unreachable-requires c =
    no_links c.args.heading.now.position c.args.heading.now.winner c.args.steps.now c.loop-step.step-index c.step-item.result
    c.loop-step.links.items
    c.loop-step-test.true c.step-item.is c.loop-step.invariant.right
    (rw c.as_slice-before.ensures.value at c.in-None.ensures) c.requires.right.0 c.requires.right.1

pub loop-step-preserved : goal.loop-step-preserved
loop-step-preserved c = record {
  right = rw c.push_reserved.ensures.items
      (one_link_more c.args.heading.now.position c.args.heading.now.winner c.args.steps.now c.loop-step.step-index c.step-item.result
      c.loop-step.links.items
      c.loop-step-test.true c.step-item.is c.loop-step.invariant.right c.in-Some.link
      (rw c.as_slice-before.ensures.value at c.in-Some.ensures));
  count = omega (arith, c.push_reserved.ensures.len);
  room = c.push_reserved.ensures.capacity ∙ c.loop-step.invariant.room;
}
