use Rattle.hx_solve.proofs.TreeSolutions.{lack-told, tree-told}
use Rattle.hx_solve.proofs.solves.by_workers.Goals as goal

pub returns-clause-tree : goal.returns-clause-tree
returns-clause-tree g c =
    let searched = c.in_ok-searched.searched in
    tree-told c.conclude.result (λ tree. tree.items) searched.book.nodes searched.totals.granted c.args.position.now c.args.to_move
    c.args.settings.now searched.end c.in_ok-searched.ensures.ended c.conclude.ensures.tree

pub returns-clause-no_chain : goal.returns-clause-no_chain
returns-clause-no_chain g c =
    lack-told c.conclude.result c.in_ok-searched.searched.end _ _ c.in_ok-searched.ensures.has_tried c.conclude.ensures.cause
