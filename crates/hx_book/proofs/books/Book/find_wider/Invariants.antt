use Rattle.std.proofs.Common.{length}
use Rattle.hx_book.specs.Buckets.{stones_key}
use Rattle.hx_book.proofs.ChainLaws.{IsReached}
use Rattle.hx_book.proofs.FoundLaws.{HasWider}
use Rattle.hx_book.proofs.books.Book.find_wider.Given as goal

abbrev pub invariant-loop-link : goal.invariant-loop-link
invariant-loop-link l =
    IsReached (stones_key (length l.self-inside.by_stones.heads)) l.self-inside.nodes.items l.number
    (HasWider l.position l.to_move l.winner) l.link

abbrev pub decreases-loop-link : goal.decreases-loop-link
decreases-loop-link l = l.link
