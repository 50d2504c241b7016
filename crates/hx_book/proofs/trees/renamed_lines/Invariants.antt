use Rattle.std.proofs.Common.{◌≡◌, ℕ}
use Rattle.std.specs.Prelude.{slice_index}
use Rattle.hx_book.specs.Trees.{renamed_line}
use Rattle.hx_book.proofs.RenamingLaws.{mapped}
use Rattle.hx_book.proofs.trees.renamed_lines.Given as goal

abbrev pub invariant-loop-k : goal.invariant-loop-k
invariant-loop-k l = l.items.items ≡ mapped (renamed_line (λ (place : ℕ). slice_index l.names place)) l.k l.fn.lines
