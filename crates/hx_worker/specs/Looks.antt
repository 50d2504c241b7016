-- What a last look at a position comes to.
use Rattle.std.specs.Prelude.{IfOk, IfErr, IfSome, IfNone, Result, Option}
use Rattle.hx_tree.specs.declared.entries.Found.{Found}
use Rattle.hx_tree.specs.Entries.{IsFirstFound}
use Rattle.hx_book.specs.Sights.{Sight, Grows}
use Rattle.hx_limits.specs.declared.ran_out.RanOut.{RanOut}
use Rattle.hx_limits.specs.Causes.{IsUnstored}
use Rattle.hx_worker.specs.declared.closing.LastLook.{LastLook}

-- what is seen of the list of proofs only grew, what was found is the first entry of the position and mover, and what
-- ran out is why no proof was stored
pub record Looks {R : Type 0} (look : LastLook R) (old new : Sight) (result : Result (Option Found) RanOut) : Type 0 where
  pub grew : Grows old new
  pub found : IfOk result (λ found. IfSome found (IsFirstFound new.list look.position.now look.to_move))
  pub stopped : IfErr result (IsUnstored new)

-- where nothing was found, this is so
abbrev pub IfNothing : Result (Option Found) RanOut → Type 0 → Type 0
IfNothing result Fact = IfOk result (λ found. IfNone found Fact)
