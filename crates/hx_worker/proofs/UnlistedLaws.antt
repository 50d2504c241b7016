-- A position that had no entry when it was looked up: so it stays, whatever comes to the list before and behind that
-- look.
use Rattle.std.proofs.Common.{Bool, true, false, List}
use Rattle.hx_board.specs.declared.colours.Colour.{Colour}
use Rattle.hx_board.specs.Positions.{Board}
use Rattle.hx_tree.specs.declared.nodes.Node.{Node}
use Rattle.hx_tree.specs.Entries.{Extends}
use Rattle.hx_tree.proofs.EntryLaws.{seen-now, seen-within}
use Rattle.hx_nodes.specs.Stored.{LacksEither}
use Rattle.hx_worker.specs.Ends.{WasUnlisted}

pub neither-unlisted : (plain : Bool) (old new : List Node) (board : Board) (mover : Colour) → Extends old new
    → LacksEither plain old new board mover → WasUnlisted plain old new board mover
neither-unlisted true old new board mover grown missed = missed
neither-unlisted false old new board mover grown neither = record {
  missed = neither.missed;
  turned = neither.turned;
  is_turned = neither.is_turned;
  turned_missed = seen-now _ old new grown neither.none;
}

pub unlisted-wider : (plain : Bool) (first old new last : List Node) (board : Board) (mover : Colour) → Extends first old → Extends new last
    → WasUnlisted plain old new board mover → WasUnlisted plain first last board mover
unlisted-wider true first old new last board mover before after missed = seen-within _ first old new last before after missed
unlisted-wider false first old new last board mover before after unlisted = record {
  missed = seen-within _ first old new last before after unlisted.missed;
  turned = unlisted.turned;
  is_turned = unlisted.is_turned;
  turned_missed = seen-within _ first old new last before after unlisted.turned_missed;
}
