-- How far the closing of a set has come. These words are for the functions inside the crate alone.
use Rattle.std.specs.Prelude.{◌≡◌, ℕ, ◌+◌, ◌<◌, ◌≤◌, Bool, true, false, List, length, slice_get}
use Rattle.std.specs.declared.option.Option.{Option}
use Rattle.std.specs.declared.option.Option.TheVariants.{None, Some}
use Rattle.hx_board.specs.declared.cells.TheConstants.{CELLS}
use Rattle.hx_board.specs.declared.vertices.Vertex.{Vertex}
use Rattle.hx_board.specs.Sets.{has, IsSubset, count_below}
use Rattle.hx_board.specs.Graph.{IsVertex, IsOwn}
use Rattle.hx_board.specs.VertexSets.{code_of}
use Rattle.hx_board.specs.declared.vertices.TheConstants.{VERTICES}
use Rattle.hx_link.specs.declared.links.Kind.TheVariants.{Full, Semi}
use Rattle.hx_link.specs.declared.links.Link.{Link}
use Rattle.hx_link.specs.Steps.{HasEnds}
use Rattle.hx_link.specs.declared.steps.Step.{Step}
use Rattle.hx_link.specs.declared.steps.Step.TheVariants.{Base, AndStone, AndCell, Or}
use Rattle.hx_linkset.specs.declared.limits.TheConstants.{MOST_LINKS}
use Rattle.hx_linkset.specs.declared.sets.Added.{Added}
use Rattle.hx_linkset.specs.declared.sets.Added.TheVariants.{New, Covered, Refused, Limit}
use Rattle.hx_linkset.specs.States.{Standing}
use Rattle.hx_linkset.specs.Answers.{Gives}
use Rattle.hx_linkset.specs.LiveOf.{IsLiveOf}
use Rattle.hx_reach.specs.Growth.{IsGrown}
use Rattle.hx_search.specs.declared.tries.Tried.{Tried}
use Rattle.hx_search.specs.declared.tries.Tried.TheVariants.{Settled, Stopped}
use Rattle.hx_search.specs.declared.ors.Passed.{Passed}
use Rattle.hx_search.specs.declared.ors.Passed.TheVariants.{Same, More, Full as AtLimit}
use Rattle.hx_search.specs.Closed.{IsSettled, IsForked, HasFull, IsStuck}

-- ---- tries

-- the set holds all the links that it can, and what the step gives no live link covers
pub record IsUnsettled (set : Standing) (step : Step) : Type 0 where
  pub full : length set.present.links ≡ MOST_LINKS
  pub not_settled : IsSettled set step → ⊥

-- what became of one step
abbrev pub IsTriedStep : Standing → Step → Tried → Type 0
IsTriedStep set step Settled = IsSettled set step
IsTriedStep set step Stopped = IsUnsettled set step

-- what the answer of a set says of the step that was to be added
abbrev pub tried_by : Added → Tried
tried_by (New place) = Settled
tried_by (Covered place) = Settled
tried_by Refused = Settled
tried_by Limit = Stopped

-- what became of several steps, which were tried to bring a fact about
abbrev pub AreTried : Standing → Type 0 → Tried → Type 0
AreTried set Fact Settled = Fact
AreTried set Fact Stopped = IsStuck set

-- what became of Ors: none was added, and the fact holds; or there are more links; or there is no room
abbrev pub IsPassed : Standing → Standing → Type 0 → Passed → Type 0
IsPassed old new Fact Same = (new ≡ old) × Fact
IsPassed old new Fact More = length old.present.links < length new.present.links
IsPassed old new Fact AtLimit = IsStuck new

-- what the answer of a set says of the Or that was to be added
abbrev pub passed_by : Added → Passed
passed_by (New place) = More
passed_by (Covered place) = Same
passed_by Refused = Same
passed_by Limit = AtLimit

-- as far as Ors were tried: where none was added the fact holds
pub record PassedSoFar (old new : Standing) (more : Bool) (Fact : Type 0) : Type 0 where
  pub grown : IsGrown old new
  pub same : more ≡ false → (new ≡ old) × Fact
  pub longer : more ≡ true → length old.present.links < length new.present.links

-- ---- bases

-- the Bases of a vertex with those of the board that have a number from one bound to another
abbrev pub AreBasesOf : Standing → Vertex → ℕ → ℕ → Type 0
AreBasesOf set a from bound = (b : Vertex) → IsVertex set.present.board.size b
    → code_of b < bound → from ≤ code_of b → IsSettled set (Base a b)

-- the Bases of each vertex below a bound with those above it
abbrev pub AreBasesBelow : Standing → ℕ → Type 0
AreBasesBelow set bound = (a : Vertex) → IsVertex set.present.board.size a → code_of a < bound
    → AreBasesOf set a (code_of a + 1) VERTICES

-- ---- ands

-- both Ands of two places
abbrev pub IsPairSettled : Standing → ℕ → ℕ → Type 0
IsPairSettled set left right =
    IsSettled set (AndStone left right) × IsSettled set (AndCell left right)

-- of each link below a bound, the Ands with each earlier one
abbrev pub AreRowsSettled : Standing → ℕ → Type 0
AreRowsSettled set bound = (left right : ℕ) → left < right → right < bound
    → IsPairSettled set left right

-- the And over an own vertex, or over an empty cell
abbrev pub and_at : Bool → ℕ → ℕ → Step
and_at true left right = AndStone left right
and_at false left right = AndCell left right

-- the And over one end of a link with each earlier Full link that leads from there to a vertex
abbrev pub IsChainSettled : Standing → Bool → Vertex → Vertex → ℕ → ℕ → Type 0
IsChainSettled set own end to bound right = (left : ℕ) → left < bound
    → IsLiveOf set Full end to left → IsSettled set (and_at own left right)

-- as far as the walk along these links has come: the next one is at this place, or no more come
abbrev pub IsChainSettledTo : Standing → Bool → Vertex → Vertex → ℕ → Option ℕ → Type 0
IsChainSettledTo set own end to right None = IsChainSettled set own end to right right
IsChainSettledTo set own end to right (Some left) = IsLiveOf set Full end to left
    × IsChainSettled set own end to left right

-- with the links to each vertex of the board below a bound
abbrev pub IsEndSettledBelow : Standing → Bool → Vertex → ℕ → ℕ → Type 0
IsEndSettledBelow set own end right bound = (to : Vertex) → IsVertex set.present.board.size to
    → code_of to < bound → IsChainSettled set own end to right right

-- the Ands over one end of a link with all earlier Full links that lead from there
abbrev pub IsEndSettled : Standing → Vertex → ℕ → Type 0
IsEndSettled set end right = (to : Vertex) (left : ℕ) → left < right → IsLiveOf set Full end to left
    → (IsOwn set.present.board set.player end → IsSettled set (AndStone left right))
    × ((IsOwn set.present.board set.player end → ⊥) → IsSettled set (AndCell left right))

-- ---- ors

-- these places have live Semi links of two ends, and of a cell that is not shared some of them lacks it
pub record AreParts (set : Standing) (a b : Vertex) (parts : List ℕ) (shared : ℕ) : Type 0 where
  pub each : (k place : ℕ) → slice_get parts k ≡ Some place → IsLiveOf set Semi a b place
  pub some : (place : ℕ) × (slice_get parts 0 ≡ Some place)
  pub lacking : (cell : ℕ) → has shared cell ≡ false
      → (k : ℕ) × ((place : ℕ) × ((slice_get parts k ≡ Some place)
      × ((link : Link) × ((slice_get set.present.links place ≡ Some link)
      × (has link.carrier cell ≡ false)))))
  pub few : length parts + count_below 128 shared ≤ CELLS + 1

-- the live Semi links of two ends up to a place have all that is shared
abbrev pub AllShare : Standing → Vertex → Vertex → ℕ → ℕ → Type 0
AllShare set a b shared last = (place : ℕ) → place ≤ last → (semi : IsLiveOf set Semi a b place)
    → IsSubset shared semi.link.carrier

-- the ends are forked, and the Or of these parts gives a link of them
pub record IsFork (set : Standing) (a b : Vertex) (parts : List ℕ) : Type 0 where
  pub forked : IsForked set a b
  pub link : Link
  pub gives : Gives set (Or parts) link
  pub kind_is : link.kind ≡ Full
  pub ends : HasEnds link a b

-- where two ends are forked they have a Full link
abbrev pub IsJoinedWhereForked : Standing → Vertex → Vertex → Type 0
IsJoinedWhereForked set a b = IsForked set a b → HasFull set a b

-- one vertex with those of the board that have a number from one bound to another
abbrev pub AreForksOf : Standing → Vertex → ℕ → ℕ → Type 0
AreForksOf set a from bound = (b : Vertex) → IsVertex set.present.board.size b
    → code_of b < bound → from ≤ code_of b → IsJoinedWhereForked set a b

-- each vertex below a bound with those above it
abbrev pub AreForksBelow : Standing → ℕ → Type 0
AreForksBelow set bound = (a : Vertex) → IsVertex set.present.board.size a → code_of a < bound
    → AreForksOf set a (code_of a + 1) VERTICES
