use Rattle.hx_book.proofs.PlainTrees.{tree-plain}
use Rattle.hx_solve.proofs.TreeSolutions.{tree-for}
use Rattle.hx_solve.proofs.trees.tree_at.Goals as goal

pub returns-clause-tree : goal.returns-clause-tree
returns-clause-tree c =
    tree-for _ _ _ _ _ c.root_for-root.ensures.same_heading c.root_for-root.ensures.few c.in_ok-tree_of.ensures

pub returns-clause-plain : goal.returns-clause-plain
returns-clause-plain c = λ plain.
    tree-plain _ c.root_for-root.ensures.right c.root_for-root.result _ c.in_ok-tree_of.ensures (c.root_for-root.ensures.plain plain)
