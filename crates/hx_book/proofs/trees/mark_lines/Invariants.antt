use Rattle.std.proofs.Common.{take}
use Rattle.hx_book.specs.Trees.{HasLine}
use Rattle.hx_book.specs.Renaming.{MarksMore}
use Rattle.hx_book.proofs.trees.mark_lines.Given as goal

abbrev pub invariant-loop-line : goal.invariant-loop-line
invariant-loop-line l = MarksMore (HasLine (take l.line-index l.lines)) l.initial.marks.items l.marks.items
