-- A list of right nodes to which right nodes are added.
use Rattle.std.specs.Prelude.{◌≡◌, ◌<◌, ◌≤◌, ℕ, Bool, true, List, [], ◌∷◌, ◌++◌, length, slice_get}
use Rattle.hx_tree.specs.declared.checkers.TheConstants.{MOST_NODES}
use Rattle.hx_tree.specs.declared.nodes.Heading.{Heading}
use Rattle.hx_tree.specs.declared.nodes.Node.{Node}
use Rattle.hx_tree.specs.Entries.{Extends}
use Rattle.hx_tree.specs.Plain.{ArePlain}
use Rattle.hx_tree.specs.Trees.{AreRight, headings_of}

-- the new list begins with the old one, is right and small enough, and is plain where the old one is
pub record IsGrown (old new : List Node) : Type 0 where
  pub after : Extends old new
  pub right : AreRight new
  pub few : length new ≤ MOST_NODES
  pub plain : ArePlain old → ArePlain new

-- it is so, but that it is plain only where the further nodes must be
pub record IsMore (must_be_plain : Bool) (old new : List Node) : Type 0 where
  pub after : Extends old new
  pub right : AreRight new
  pub few : length new ≤ MOST_NODES
  pub plain : must_be_plain ≡ true → ArePlain old → ArePlain new

-- the node was put at this place, behind the others, and these are the headings of all
pub record IsPushed (old : List Node) (node : Node) (place : ℕ) (new : List Node) (headings : List Heading) : Type 0 where
  pub last : place ≡ length old
  pub grown : new ≡ old ++ node ∷ []
  pub same_headings : headings ≡ headings_of new

-- the new list has at this place the heading that the old one has at the root
pub record HasHeadingOf (old : List Node) (root : ℕ) (new : List Node) (place : ℕ) : Type 0 where
  pub inside : place < length new
  pub same_heading : slice_get (headings_of new) place ≡ slice_get (headings_of old) root
