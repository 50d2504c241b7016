-- Each opening that was gone through has an entry by now.
use Rattle.std.proofs.Common.{◌≡◌, ℕ, true}
use Rattle.hx_board.specs.Sets.{has, count_below}
use Rattle.hx_worker.specs.Jobs.{IsReady, IsSameWorker}
use Rattle.hx_survey.proofs.ThroughOpenings.{HasOpeningsBut}
use Rattle.hx_survey.proofs.openings.Openings.go_through.Given as goal

abbrev pub invariant-loop-cell : goal.invariant-loop-cell
invariant-loop-cell g l = record {
  ready : IsReady l.job;
  same : IsSameWorker l.fn.job l.job;
  inside : (cell : ℕ) → has l.left cell ≡ true → has l.fn.cells cell ≡ true;
  through : HasOpeningsBut l.job.proofs.seat.seen l.self.size l.fn.cells l.left;
}

abbrev pub decreases-loop-cell : goal.decreases-loop-cell
decreases-loop-cell g l = count_below 128 l.left
