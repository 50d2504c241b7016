-- The tree of a proof that a search came to solves the position; what else the search came to is a cause.
use Rattle.std.proofs.Common.{◌≡◌, ℕ, ◌≤◌, List, length, get_or, sym, ap, ◌∙◌, subst, arith}
use Rattle.std.specs.Prelude.{slice_get, Result, Ok, Err, IfOk, IfErr}
use Rattle.std.proofs.lemmas.Option.{slice_get-get_or, same_Some, slice_get_within}
use Rattle.hx_board.specs.declared.colours.Colour.{Colour}
use Rattle.hx_board.specs.Positions.{Board}
use Rattle.hx_board.specs.Counts.{empty_count}
use Rattle.hx_board.proofs.EmptyCells.{sweep_size-below, sweep_size-nine}
use Rattle.hx_board.proofs.ListLaws.{get-map}
use Rattle.hx_tree.specs.declared.nodes.Heading.{Heading}
use Rattle.hx_tree.specs.declared.entries.Found.{Found}
use Rattle.hx_tree.specs.declared.nodes.Node.{Node}
use Rattle.hx_book.specs.declared.books.TheConstants.{MOST_SLOTS}
use Rattle.hx_book.specs.Entries.{contents, IsBook}
use Rattle.hx_book.specs.Trees.{IsTreeOf}
use Rattle.hx_tree.specs.Entries.{IsFirstFound}
use Rattle.hx_tree.specs.Trees.{headings_of}
use Rattle.hx_sweep.specs.Sweeps.{IsSweep}
use Rattle.hx_limits.specs.declared.settings.Settings.{Settings}
use Rattle.hx_limits.specs.declared.ran_out.RanOut.{RanOut}
use Rattle.hx_limits.specs.declared.ran_out.RanOut.TheVariants.{Budget, Slots, Memory}
use Rattle.hx_solve.specs.Solutions.{IsSolution}
use Rattle.hx_limits.specs.Causes.{HasCause, FoundNoRoom, LacksUnit}
use Rattle.hx_pool.specs.Ends.{EndsSpent}
use Rattle.hx_pool.specs.Searches.{IsClosedEnd}
use Rattle.hx_solve.specs.Searches.{IsProofOf, HasEntryFor, IsTreeFor, IsTreeFrom, SaysWhy}

-- ---- the tree of an entry, where nodes were added behind the others

pub tree-for : (old new : List Node) (place root : ℕ) (tree : List Node)
    → slice_get (headings_of new) root ≡ slice_get (headings_of old) place → length new ≤ MOST_SLOTS → IsTreeOf new root tree
    → IsTreeFor old place tree
tree-for old new place root tree same few is = record {
  valid = is.valid;
  few = omega (arith, is.few, few);
  root = is.root;
  is_root = is.is_root;
  same_heading = sym same ∙ is.same_heading;
  one_size = is.one_size;
}

-- ---- by workers

-- the root of an entry's tree has the entry's heading
root-heading : (nodes tree : List Node) (board : Board) (mover : Colour) (found : Found)
    → (first : IsFirstFound nodes board mover found) (is : IsTreeFor nodes found.index tree)
    → is.root.heading ≡ first.first.entry.node.heading
root-heading nodes tree board mover found first is =
    same_Some is.root.heading first.first.entry.node.heading
    (sym is.same_heading ∙ get-map (λ (node : Node). node.heading) nodes found.index first.first.entry.node first.first.entry.there)

entry-solves : (nodes tree : List Node) (board : Board) (mover : Colour) (found : Found)
    → IsFirstFound nodes board mover found → IsTreeFor nodes found.index tree → IsSolution board mover tree
entry-solves nodes tree board mover found first is = record {
  valid = is.valid;
  root = is.root;
  last = is.is_root;
  position = position;
  to_move = ap (λ (h : Heading). h.to_move) same ∙ first.first.entry.is_of.same_mover;
  few = is.few;
  size = λ k d inside. is.one_size k (get_or tree k d) (slice_get-get_or tree k d inside) ∙ ap (λ (b : Board). b.size) position;
}
  where
    same : is.root.heading ≡ first.first.entry.node.heading
    same = root-heading nodes tree board mover found first is

    position : is.root.heading.position ≡ board
    position = ap (λ (h : Heading). h.position) same ∙ first.first.entry.is_of.same_position

tree-solves : (nodes tree : List Node) (granted : ℕ) (board : Board) (mover : Colour) (settings : Settings) (end : Result Found RanOut)
    → IsClosedEnd (IsProofOf board mover) nodes granted settings end → IsTreeFrom nodes end tree → IsSolution board mover tree
tree-solves nodes tree granted board mover settings (Ok found) says is = entry-solves nodes tree board mover found says is
tree-solves nodes tree granted board mover settings (Err why) says is = absurd is

-- what is made of the end solves the position, where it is a tree
pub tree-told : {T : Type 0} (result : Result T RanOut) (items : T → List Node) (nodes : List Node) (granted : ℕ) (board : Board)
    (mover : Colour) (settings : Settings) (end : Result Found RanOut) → IsClosedEnd (IsProofOf board mover) nodes granted settings end
    → IfOk result (λ tree. IsTreeFrom nodes end (items tree)) → IfOk result (λ tree. IsSolution board mover (items tree))
tree-told (Ok tree) items nodes granted board mover settings end says is =
    tree-solves nodes (items tree) granted board mover settings end says is
tree-told (Err why) items nodes granted board mover settings end says is = tt

pub entry-there : (nodes : List Node) (granted : ℕ) (board : Board) (mover : Colour) (settings : Settings) (end : Result Found RanOut)
    → IsClosedEnd (IsProofOf board mover) nodes granted settings end → HasEntryFor nodes end
entry-there nodes granted board mover settings (Ok found) says =
    slice_get_within nodes found.index says.first.entry.node says.first.entry.there
entry-there nodes granted board mover settings (Err why) says = tt

pub cause-by : (nodes : List Node) (granted : ℕ) (board : Board) (mover : Colour) (settings : Settings) (end : Result Found RanOut)
    (why : RanOut) → IsBook (contents settings.slots nodes) → IsClosedEnd (IsProofOf board mover) nodes granted settings end
    → SaysWhy end why → HasCause settings why
cause-by nodes granted board mover settings (Ok found) why book says is = subst (HasCause settings) (sym is) tt
cause-by nodes granted board mover settings (Err (Budget taken)) why book says is = subst (HasCause settings) (sym is) says.0
cause-by nodes granted board mover settings (Err (Slots refusal)) why book says is =
    subst (HasCause settings) (sym is)
    (let room : FoundNoRoom settings.slots refusal = record { nodes = nodes; book = book; out_of_slots = says } in room)
cause-by nodes granted board mover settings (Err Memory) why book says is = subst (HasCause settings) (sym is) tt

-- a unit is wanting where the end says so
spent-by : (end : Result Found RanOut) (why : RanOut) → SaysWhy end why → LacksUnit why → EndsSpent end
spent-by (Ok found) why is lacks = absurd (subst LacksUnit is lacks)
spent-by (Err ran_out) why is lacks = subst LacksUnit is lacks

-- where units are wanting, what is so at an end without units is so
pub lack-told : {T : Type 0} (result : Result T RanOut) (end : Result Found RanOut) (Asked Told : Type 0) → (EndsSpent end → Asked → Told)
    → IfErr result (SaysWhy end) → IfErr result (λ why. LacksUnit why → Asked → Told)
lack-told (Ok tree) end Asked Told told is = tt
lack-told (Err why) end Asked Told told is = λ lacks. told (spent-by end why is lacks)

-- ---- by a full search

pub sweep-solves : (board : Board) (mover : Colour) (tree : List Node) → empty_count board ≤ 9 → IsSweep board mover tree
    → IsSolution board mover tree
sweep-solves board mover tree few sweep = record {
  valid = sweep.valid;
  root = sweep.root;
  last = sweep.last;
  position = sweep.position;
  to_move = sweep.to_move;
  few = omega (arith, sweep.few, sweep_size-below (empty_count board) 9 few, sweep_size-nine);
  size = sweep.size;
}
