use Rattle.hx_tree.proofs.HeadingLaws.{leads-heading, heading-leads}
use Rattle.hx_tree.proofs.headings.says.Goals as goal

pub returns : goal.returns
returns c = (
  (λ yes. heading-leads c.args.position.now c.args.mover c.args.winner c.args.before.now c.args.child (c.is_at.ensures.0 yes)),
  (λ leads. c.is_at.ensures.1 (leads-heading c.args.position.now c.args.mover c.args.winner c.args.before.now c.args.child leads)),
)
