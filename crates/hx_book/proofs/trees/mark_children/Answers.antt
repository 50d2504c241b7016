use Rattle.std.proofs.Common.{ℕ}
use Rattle.hx_book.specs.Trees.{HasLine}
use Rattle.hx_book.proofs.MarkLaws.{child-named, lines-named}
use Rattle.hx_book.proofs.trees.mark_children.Goals as goal

pub mark-requires : goal.mark-requires
mark-requires c = c.requires c.in-Some.child (child-named c.args.entry.now.rule c.in-Some.child c.in-Some.ensures)

pub mark_lines-requires : goal.mark_lines-requires
mark_lines-requires c =
    λ (place : ℕ) (has : HasLine c.lines.result.now place).
    c.requires place (lines-named c.args.entry.now.rule place (rw c.lines.ensures at has))
