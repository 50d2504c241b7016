-- Stones that are put on a set of links and taken back.
use Rattle.std.specs.Prelude.{◌≡◌, ◌≢◌, [], ◌∷◌}
use Rattle.hx_linkset.specs.States.{Standing}
use Rattle.hx_dfpn.specs.declared.sets.Before.{Before}
use Rattle.hx_dfpn.specs.declared.sets.Before.TheVariants.{Played, Same, Other}

-- stones were put on the set as one play
pub record IsPlayedOn (old new : Standing) : Type 0 where
  pub same_player : new.player ≡ old.player
  pub same_past : new.past ≡ old.present ∷ old.past

-- the last play is taken back
pub record IsUndone (old new : Standing) : Type 0 where
  pub same_player : new.player ≡ old.player
  pub back : old.past ≡ new.present ∷ new.past

-- stones were put on the set, or it is as it was, or another one took its place
abbrev pub IsPut : Before → Standing → Standing → Type 0
IsPut Played old new = IsPlayedOn old new
IsPut Same old new = new ≡ old
IsPut (Other set) old new = set ≡ old

-- where stones were put on the set, it has a play to take back
abbrev pub HasPlay : Before → Standing → Type 0
HasPlay Played set = set.past ≢ []
HasPlay Same set = Unit {0}
HasPlay (Other kept) set = Unit {0}

-- what was put is taken back
abbrev pub IsBack : Before → Standing → Standing → Type 0
IsBack Played old new = IsUndone old new
IsBack Same old new = new ≡ old
IsBack (Other set) old new = new ≡ set
