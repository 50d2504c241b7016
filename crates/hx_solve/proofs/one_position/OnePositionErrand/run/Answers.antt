use Rattle.std.proofs.Common.{arith}
use Rattle.hx_solve.proofs.one_position.OnePositionErrand.run.Goals as goal

pub returns : goal.returns
returns g c =
    let work = c.work_at.ensures in record {
      same_book = work.book;
      same_counts = work.counts;
      ended = work.ended;
      has_tried = λ spent some. work.no_chain spent (omega (arith, some, c.requires.seats.nothing.granted));
    }
