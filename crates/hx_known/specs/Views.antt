-- What whoever knows is to a search, and what the answers say.
use Rattle.std.specs.Prelude.{◌≡◌, List, [], ◌∷◌}
use Rattle.std.specs.Borrow.{GName}
use Rattle.hx_book.specs.Sights.{Sight, Grows}
use Rattle.hx_limits.specs.declared.ran_out.RanOut.{RanOut}
use Rattle.hx_limits.specs.Causes.{IsUnstored}
use Rattle.hx_known.specs.declared.knows.Known.{Known}
use Rattle.hx_known.specs.declared.knows.Known.TheVariants.{Proved, Nothing}

-- the nodes that were seen, and the borrows behind which they are, the outermost first
pub record View : Type 0 where
  pub sight : Sight
  pub behind : List GName

-- a list of proofs that is seen so, behind one borrow
abbrev pub seen_behind : Sight → GName → View
seen_behind sight borrow = record { sight = sight; behind = borrow ∷ [] }

-- what was seen only grew, behind the same borrows
pub record Goes (old new : View) : Type 0 where
  pub grew : Grows old.sight new.sight
  pub same_behind : new.behind ≡ old.behind

-- where it is proved, it is so
abbrev pub IfProved : Type 0 → Known → Type 0
IfProved Fact Proved = Fact
IfProved Fact Nothing = Unit {0}

-- why nothing could be added: no slot was left, or memory ran out
abbrev pub LacksRoom : View → RanOut → Type 0
LacksRoom view why = IsUnstored view.sight why
