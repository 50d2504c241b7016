use Rattle.std.proofs.Common.{length}
use Rattle.hx_tree.specs.Entries.{IsOf}
use Rattle.hx_book.specs.Buckets.{position_key}
use Rattle.hx_book.proofs.ChainLaws.{IsReached}
use Rattle.hx_book.proofs.books.Book.find.Given as goal

abbrev pub invariant-loop-link : goal.invariant-loop-link
invariant-loop-link l =
    IsReached (position_key (length l.self-inside.by_position.heads)) l.self-inside.nodes.items l.number (IsOf l.position l.to_move) l.link

abbrev pub decreases-loop-link : goal.decreases-loop-link
decreases-loop-link l = l.link
