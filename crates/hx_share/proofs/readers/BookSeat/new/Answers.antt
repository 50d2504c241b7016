use Rattle.hx_share.proofs.ReaderLaws.{new-keeps}
use Rattle.hx_share.proofs.readers.BookSeat.new.Goals as goal

pub invariant_of-result : goal.invariant_of-result
invariant_of-result c = new-keeps c.args.seat.me c.requires.new c.requires.small
