use Rattle.std.proofs.Common.{◌≡◌, ℕ, true, ◌<◌, ◌∙◌, arith, subst}
use Rattle.hx_board.specs.Sets.{has}
use Rattle.hx_board.proofs.CellLaws.{on_board-small}
use Rattle.hx_board.proofs.SetLaws.{has-remove_before}
use Rattle.hx_board.proofs.Tallies.{count_below-remove}
use Rattle.hx_tree.proofs.EntryLaws.{extends-on}
use Rattle.hx_survey.proofs.ThroughOpenings.{through-next}
use Rattle.hx_survey.proofs.openings.Openings.go_through.Goals as goal

pub loop-cell-smaller : goal.loop-cell-smaller
loop-cell-smaller g c =
    let least = c.in-Some.ensures.among in
    let small : c.in-Some.cell < 121 =
    on_board-small c.args.self.now.size c.in-Some.cell c.rows-rows.ensures.valid least.on_board in
    rw c.without-left.ensures.set
    (omega (arith, count_below-remove 128 c.loop-cell.left c.in-Some.cell least.member (omega arith)))

pub loop-cell-preserved : goal.loop-cell-preserved
loop-cell-preserved g c =
    let before = c.loop-cell.invariant in
    let settled = c.settle.ensures in
    record {
      ready = settled.ready;
      same = record {
        same_book = settled.same.same_book ∙ before.same.same_book;
        same_counts = settled.same.same_counts ∙ before.same.same_counts;
        grew = extends-on _ _ _ before.same.grew settled.same.grew;
      };
      inside = λ cell h. before.inside cell (has-remove_before c.loop-cell.left c.in-Some.cell cell
          (subst (λ (s : ℕ). has s cell ≡ true) c.without-left.ensures.set h));
      through = rw c.without-left.ensures.set
          (through-next c.args.self.now.size c.args.cells c.loop-cell.job.proofs.seat.seen c.settle.new.job.proofs.seat.seen
          c.loop-cell.left c.in-Some.cell settled.same.grew before.through c.in_ok-settle.ensures.found);
    }
