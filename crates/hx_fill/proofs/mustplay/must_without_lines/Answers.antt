use Rattle.std.proofs.Common.{arith}
use Rattle.hx_board.specs.Colours.{other_of}
use Rattle.hx_fill.proofs.NoLines.{none-under}
use Rattle.hx_fill.proofs.mustplay.must_without_lines.Goals as goal

pub returns-clause-must : goal.returns-clause-must
returns-clause-must c =
    let all = c.in_ok-found.ensures in
    rw (c.new.ensures, c.new-3.ensures, c.new-2.ensures.items) (record {
      live = all.threats.live;
      few = omega (arith, all.threats.few);
      each_takes = all.threats.each_takes;
      shared = all.shared_by_all;
      same = all.threats.shared;
      under_lines = none-under c.args.set.now.present.board (other_of c.args.set.now.player) c.in_ok-found.found.cells;
    })
