use Rattle.std.proofs.Common.{rules, ◌≡◌, ◌∙◌, List, subst, arith}
use Rattle.hx_tree.specs.declared.nodes.Heading.{Heading}
use Rattle.hx_tree.specs.Rules.{IsRightNode}
use Rattle.hx_tree.specs.Trees.{headings_of}
use Rattle.hx_naming.proofs.MoreLaws.{added-more}
use Rattle.hx_naming.proofs.added.add.Goals as goal

pub returns-in-Ok-true-clause-more : goal.returns-in-Ok-true-clause-more
returns-in-Ok-true-clause-more c =
    let right : IsRightNode c.as_slice.result.now c.args.node = c.in-Ok-true.ensures.right.0 c.in-Ok-true.field-0-test in
    let here : c.as_slice.result.now ≡ headings_of c.args.nodes.now.items = c.as_slice.ensures.value ∙ c.requires.headings in
    added-more c.args.must_be_plain c.args.nodes.now.items c.args.node c.push.new.nodes.items c.push.new.headings.items c.push.result
    c.requires.right (omega (arith, c.if-len.false, c.len.ensures))
    (subst (λ (before : List Heading). IsRightNode before c.args.node) here right)
    (c.is_plain_enough.ensures (search rules)) c.push.ensures.pushed c.push.ensures.memory
