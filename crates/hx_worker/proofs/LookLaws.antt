-- Last looks at a position: one that ends by an entry or by what ran out, and one behind others.
use Rattle.std.proofs.Common.{Option, Some, None, Result, Ok, Err}
use Rattle.hx_tree.specs.declared.entries.Found.{Found}
use Rattle.hx_tree.specs.Entries.{IsFirstFound}
use Rattle.hx_book.specs.Sights.{Sight, Grows}
use Rattle.hx_book.proofs.SightLaws.{grows-on}
use Rattle.hx_limits.specs.declared.ran_out.RanOut.{RanOut}
use Rattle.hx_worker.specs.declared.closing.LastLook.{LastLook}
use Rattle.hx_worker.specs.Looks.{Looks, IfNothing}

module _ {R : Type 0} (look : LastLook R) (first old new : Sight) where
  -- a proof was stored, and then its entry was found
  pub looks-found : (found : Found) → Grows first old → Grows old new
      → IsFirstFound new.list look.position.now look.to_move found → Looks look first new (Ok (Some found))
  looks-found found stored looked is = record { grew = grows-on _ _ _ stored looked; found = is; stopped = tt }

  -- a look behind others that found nothing
  pub looks-after : (result : Result (Option Found) RanOut) → Grows first old → Looks look old new result
      → Looks look first new result
  looks-after result before looks = record {
    grew = grows-on _ _ _ before looks.grew;
    found = looks.found;
    stopped = looks.stopped;
  }

-- what follows where nothing was found
pub nothing-tells : (result : Result (Option Found) RanOut) (Told More : Type 0) → (Told → More) → IfNothing result Told
    → IfNothing result More
nothing-tells (Ok None) Told More more told = more told
nothing-tells (Ok (Some found)) Told More more told = tt
nothing-tells (Err why) Told More more told = tt
