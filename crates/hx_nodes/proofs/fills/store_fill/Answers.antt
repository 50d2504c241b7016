use Rattle.std.proofs.Common.{rules, ◌≢◌, []}
use Rattle.hx_nodes.proofs.FillNodes.{fill_right}
use Rattle.hx_nodes.proofs.fills.store_fill.Goals as goal

pub store-requires-clause-right : goal.store-requires-clause-right
store-requires-clause-right g c =
    let filled : c.args.filled.now.steps.items ≢ [] = search rules in
    let right = c.in_ok-steps.ensures.right c.args.position.now c.args.filled.now.position c.requires.right in
    fill_right _ _ _ _ c.in-Some.found c.in_ok-steps.steps c.size-size.ensures.valid c.in-Some.ensures.found
    (λ none. filled (c.in_ok-steps.ensures.none.0 none)) right
