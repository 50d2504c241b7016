-- What became of the candidates of one size. These words are for the functions inside the crate alone.
use Rattle.std.specs.Prelude.{◌<◌, ◌≤◌, length}
use Rattle.hx_linkset.specs.declared.limits.TheConstants.{MOST_LINKS}
use Rattle.hx_linkset.specs.States.{Standing}
use Rattle.hx_reach.specs.declared.reaches.Taken.{Taken}
use Rattle.hx_reach.specs.declared.reaches.Taken.TheVariants.{New, NoMore, Full}

-- where one was added there are more links, and no more than there may be
abbrev pub IsTaken : Standing → Standing → Taken → Type 0
IsTaken old new (New index is_shared) = (length old.present.links < length new.present.links)
    × (length new.present.links ≤ MOST_LINKS)
IsTaken old new NoMore = Unit {0}
IsTaken old new Full = Unit {0}
