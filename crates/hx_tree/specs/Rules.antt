-- When a node is right. Its board is a position, which laws over lists of nodes need: a list that
-- only a proof speaks of may have boards that are none.
use Rattle.std.specs.Prelude.{◌≡◌, ℕ, List, []}
use Rattle.hx_board.specs.Colours.{other_of}
use Rattle.hx_board.specs.Positions.{IsBoard, IsEmpty, put}
use Rattle.hx_board.specs.Graph.{HasChain}
use Rattle.hx_link.specs.declared.steps.Step.{Step}
use Rattle.hx_tree.specs.declared.nodes.Heading.{Heading}
use Rattle.hx_tree.specs.declared.nodes.Node.{Node}
use Rattle.hx_tree.specs.declared.nodes.Rule.{Rule}
use Rattle.hx_tree.specs.declared.nodes.Rule.TheVariants.{Chain, Links, Move, All, Fill, Turned}
use Rattle.hx_tree.specs.Headings.{Leads}
use Rattle.hx_tree.specs.Steps.{AreRightLinks}
use Rattle.hx_tree.specs.Answers.{IsRightAll}
use Rattle.hx_tree.specs.Fills.{IsRightFill}
use Rattle.hx_tree.specs.Turns.{IsRightTurn}

-- the winner moves to an empty cell, and wins the board after that by an earlier heading
pub record IsRightMove (before : List Heading) (heading : Heading) (cell child : ℕ) : Type 0 where
  pub mover : heading.to_move ≡ heading.winner
  pub empty : IsEmpty heading.position cell
  pub leads : Leads before child (put heading.position heading.winner cell) (other_of heading.winner) heading.winner

-- the rule shows that the heading's winner wins, where the winners of the headings before it do
abbrev pub IsRightRule : List Heading → Heading → Rule → Type 0
IsRightRule before heading Chain = HasChain heading.position heading.winner
IsRightRule before heading (Links steps) = AreRightLinks heading steps
IsRightRule before heading (Move cell child) = IsRightMove before heading cell child
IsRightRule before heading (All steps threats lines) = IsRightAll before heading steps threats lines
IsRightRule before heading (Fill steps child) = IsRightFill before heading steps child
IsRightRule before heading (Turned child) = IsRightTurn before heading child

-- a node is right after these headings: its board has a position on it, and its rule is right
pub record IsRightNode (before : List Heading) (node : Node) : Type 0 where
  pub board : IsBoard node.heading.position
  pub rule : IsRightRule before node.heading node.rule

-- the steps of a rule that give links
abbrev pub steps_of : Rule → List Step
steps_of Chain = []
steps_of (Links steps) = steps
steps_of (Move cell child) = []
steps_of (All steps threats lines) = steps
steps_of (Fill steps child) = []
steps_of (Turned child) = []
