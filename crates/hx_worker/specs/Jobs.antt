-- A job that may go on to a further position, and what stays the same in it.
use Rattle.std.specs.Prelude.{◌≡◌}
use Rattle.hx_count.specs.Machine.{held_in_all}
use Rattle.hx_count.specs.Seats.{own}
use Rattle.hx_ordering.specs.declared.losses.TheConstants.{LOSS_WORDS}
use Rattle.hx_tree.specs.Entries.{Extends}
use Rattle.hx_share.specs.declared.desks.Desk.{Desk}
use Rattle.hx_worker.specs.declared.jobs.Job.{Job}

-- the seat is one of the job's counts, which have a word for each number, and nothing is held
pub record IsReady (job : Job Desk) : Type 0 where
  pub seat : job.seat.made ≡ job.counts.now
  pub words : job.counts.now.limits.words ≡ LOSS_WORDS
  pub nothing_held : held_in_all (own job.seat) ≡ 0

-- the seats are of the same book and of the same counts, and the list of proofs only grew
pub record IsSameWorker (old new : Job Desk) : Type 0 where
  pub same_book : new.proofs.seat.made ≡ old.proofs.seat.made
  pub same_counts : new.seat.made ≡ old.seat.made
  pub grew : Extends old.proofs.seat.seen new.proofs.seat.seen
