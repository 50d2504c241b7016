use Rattle.std.proofs.Common.{length}
use Rattle.hx_linkset.proofs.plays.+before_last.Given as goal

abbrev pub decreases-before_last : goal.decreases-before_last
decreases-before_last l = length l.plays.now
