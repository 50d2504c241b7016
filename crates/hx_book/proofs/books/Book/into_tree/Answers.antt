use Rattle.hx_book.proofs.PlainTrees.{if_ok-plain}
use Rattle.hx_book.proofs.books.Book.into_tree.Goals as goal

pub returns-clause-plain : goal.returns-clause-plain
returns-clause-plain c = rw (← c.self.view_is)
    (if_ok-plain _ c.self.inside.nodes.items c.self.invariant.book.right c.args.index c.tree_of.result c.tree_of.ensures)
