-- Where a player stands in its tree: words for the functions inside the crate alone.
use Rattle.std.specs.Prelude.{◌≡◌, ◌≤◌, ℕ, List, [], length, slice_get, Option, MatchOption}
use Rattle.std.specs.declared.option.Option.TheVariants.{None, Some}
use Rattle.std.specs.Vec.{vec_capacity}
use Rattle.hx_board.specs.Colours.{other_of}
use Rattle.hx_board.specs.declared.colours.Colour.{Colour}
use Rattle.hx_board.specs.Positions.{Board, IsEmpty, put}
use Rattle.hx_board.specs.Graph.{HasChain}
use Rattle.hx_link.specs.declared.links.Link.{Link}
use Rattle.hx_link.specs.Steps.{AreRightSteps, IsChainLink}
use Rattle.hx_link.specs.declared.steps.Step.{Step}
use Rattle.hx_tree.specs.declared.nodes.Line.{Line}
use Rattle.hx_tree.specs.declared.nodes.Node.{Node}
use Rattle.hx_tree.specs.declared.nodes.Rule.TheVariants.{All}
use Rattle.hx_tree.specs.declared.steps.TheConstants.{MOST_STEPS}
use Rattle.hx_tree.specs.Rules.{steps_of}
use Rattle.hx_tree.specs.Plain.{ArePlain}
use Rattle.hx_tree.specs.Trees.{AreRight}
use Rattle.hx_play.specs.declared.stands.Stage.{Stage}
use Rattle.hx_play.specs.declared.stands.Stage.TheVariants.{AtNode, InLinks}
use Rattle.hx_play.specs.declared.stands.Stand.{Stand}
use Rattle.hx_play.specs.Kept.{AreKept, AreLeft, HasStonesOf, IsMarked}

-- the opponent is to move, and the player keeps links of the node's
pub record KeepsLinksOf (node : Node) (stand : Stand) : Type 0 where
  pub others : stand.to_move ≡ other_of stand.winner
  pub right : AreRightSteps node.heading.position node.heading.winner [] (steps_of node.rule) stand.links.items
  pub kept : AreKept node.heading.position node.heading.winner stand.links.items stand.marks.items None None
      stand.position

-- the node says who wins here
pub record IsAtNode (node : Node) (stand : Stand) : Type 0 where
  pub same_position : node.heading.position ≡ stand.position
  pub same_mover : node.heading.to_move ≡ stand.to_move

-- what holds at each stage
abbrev pub FitsStage : Node → Stand → Stage → Type 0
FitsStage node stand AtNode = IsAtNode node stand
FitsStage node stand InLinks = KeepsLinksOf node stand

-- there is room for a node's links
pub record HasRoom (stand : Stand) : Type 0 where
  pub room : vec_capacity stand.links ≡ MOST_STEPS
  pub marks : length stand.marks.items ≡ MOST_STEPS

-- a right tree of plain nodes, with room for a node's links, and the node that the player is at or in whose links it is
pub record IsIn (nodes : List Node) (stand : Stand) (node : Node) : Type 0 where
  pub tree : AreRight nodes
  pub plain : ArePlain nodes
  pub has_room : HasRoom stand
  pub there : slice_get nodes stand.node ≡ Some node
  pub same_winner : node.heading.winner ≡ stand.winner

-- the player is at a node of a right tree of plain nodes, or in links of one
pub record StandsAt (nodes : List Node) (stand : Stand) : Type 0 where
  pub node : Node
  pub is_in : IsIn nodes stand node
  pub fits : FitsStage node stand stand.stage

-- the links of the node are read, and none is kept yet; the one at this place joins the two sides, and no stone came to
-- its cells
pub record StartsBy (node : Node) (stand : Stand) (place : ℕ) : Type 0 where
  pub right : AreRightSteps node.heading.position node.heading.winner [] (steps_of node.rule) stand.links.items
  pub few : length (steps_of node.rule) ≤ MOST_STEPS
  pub none : (p : ℕ) → IsMarked stand.marks.items p → ⊥
  pub link : Link
  pub link_there : slice_get stand.links.items place ≡ Some link
  pub joins : IsChainLink link
  pub left : AreLeft node.heading.position stand.position None link.carrier
  pub stones : HasStonesOf node.heading.winner node.heading.position stand.position

-- the player moved on this board, and the opponent is to move
pub record StandsAfter (nodes : List Node) (winner : Colour) (before : Board) (stand : Stand) (cell : ℕ) : Type 0 where
  pub same_winner : stand.winner ≡ winner
  pub others : stand.to_move ≡ other_of winner
  pub empty : IsEmpty before cell
  pub moved : stand.position ≡ put before winner cell
  pub stands : StandsAt nodes stand

-- the player moved, or had a chain already
abbrev pub Moves : List Node → Colour → Board → Stand → Option ℕ → Type 0
Moves nodes winner before stand result =
    MatchOption result (HasChain before winner) (StandsAfter nodes winner before stand)

-- the player is at a node with these threats and lines, and the opponent is to move
pub record IsAnswering (nodes : List Node) (node : Node) (threats : List ℕ) (lines : List Line)
    (stand : Stand) : Type 0 where
  pub is_in : IsIn nodes stand node
  pub stage : stand.stage ≡ AtNode
  pub is_at : IsAtNode node stand
  pub steps : List Step
  pub by_answers : node.rule ≡ All steps threats lines
