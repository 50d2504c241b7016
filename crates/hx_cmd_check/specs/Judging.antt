-- What is said of an input: that it is the text of a valid tree, or which of its lines or nodes is the first fault.
-- The lines and nodes before the first fault meet a demand: that the nodes are right, or more than that.
use Rattle.std.specs.Prelude.{◌≡◌, ◌≢◌, ℕ, ◌+◌, ◌<◌, ◌≤◌, List, [], ◌∷◌, ◌++◌, length, flat_map, Option}
use Rattle.hx_board.specs.declared.colours.Colour.{Colour}
use Rattle.hx_io.specs.Sources.{prepend}
use Rattle.hx_lines.specs.Lines.{HasLf, longest}
use Rattle.hx_tree.specs.declared.nodes.Heading.{Heading}
use Rattle.hx_tree.specs.declared.nodes.Node.{Node}
use Rattle.hx_tree.specs.Rules.{IsRightNode}
use Rattle.hx_tree.specs.Trees.{AreRight, IsValidTree, IsRoot, headings_of}
use Rattle.hx_text.specs.declared.versions.Preamble.{Preamble}
use Rattle.hx_text.specs.Grammars.{text_of, Begins, IsFaultyLine}
use Rattle.hx_text.specs.TreeTexts.{AreTreeLines, AreTreeLinesOf, IsTreeText, node_lines}
use Rattle.hx_text.specs.Lengths.{most_nodes}
use Rattle.hx_cmd_check.specs.Limits.{BeginsLong}

-- what is asked of the lines before a fault, and of the nodes that ended in them
abbrev pub Demand : Type 1
Demand = List (List ℕ) → List Node → Type 0

-- that the nodes are right
abbrev pub NodesAreRight : Demand
NodesAreRight lines nodes = AreRight nodes

-- that they are these lines and nodes, so that whatever these meet is met
abbrev pub AreThese : List (List ℕ) → List Node → Demand
AreThese lines nodes = λ other_lines others. (other_lines ≡ lines) × (others ≡ nodes)

-- The text of a tree, of no more nodes than `check` accepts, begins with these lines. Of its nodes these ended in the
-- lines, of which two come before all nodes, and the later ones did not.
pub record EndedIn (lines : List (List ℕ)) (nodes : List Node) : Type 0 where
  pub preamble : Preamble
  pub later : List Node
  pub winner : Colour
  pub rest : List (List ℕ)
  pub text : AreTreeLinesOf preamble (nodes ++ later) winner (lines ++ rest)
  pub few : length (nodes ++ later) ≤ most_nodes
  pub whole : nodes ≢ [] → 2 + length (flat_map node_lines nodes) ≤ length lines
  pub no_more : (next : Node) (others : List Node) → later ≡ next ∷ others
      → length lines < 2 + length (flat_map node_lines (nodes ++ next ∷ []))

-- the input is the text of a valid tree with this root
pub record IsYes (input : List ℕ) (heading : Heading) : Type 0 where
  pub nodes : List Node
  pub root : Node
  pub text : IsTreeText input nodes
  pub few : length nodes ≤ most_nodes
  pub valid : IsValidTree nodes
  pub last : IsRoot nodes root
  pub same : heading ≡ root.heading

-- these lines have no fault: they begin the text of a tree, and the nodes that ended in them meet the demand
pub record AreFaultless (Meets : Demand) (lines : List (List ℕ)) : Type 0 where
  pub nodes : List Node
  pub ended : EndedIn lines nodes
  pub meets : Meets lines nodes

-- this line is the first that is not of the grammar in its place, it is no longer than a line may be, and the lines
-- before it have no fault
pub record IsNoText (Meets : Demand) (input : List ℕ) (line : ℕ) : Type 0 where
  pub fault : IsFaultyLine AreTreeLines input line
  pub faultless : AreFaultless Meets fault.before
  pub short : ¬ BeginsLong fault.rest

-- this node, counted from 0, is not right, those before it meet the demand, and the lines up to its last are of the
-- grammar
pub record IsNoNode (Meets : Demand) (input : List ℕ) (k : ℕ) : Type 0 where
  pub lines : List (List ℕ)
  pub last : List ℕ
  pub rest : List ℕ
  pub parts : input ≡ text_of (lines ++ last ∷ []) ++ rest
  pub earlier : List Node
  pub node : Node
  pub ended : EndedIn (lines ++ last ∷ []) (earlier ++ node ∷ [])
  pub meets : Meets lines earlier
  pub count : k ≡ length earlier
  pub wrong : ¬ IsRightNode (headings_of earlier) node

-- as many nodes as a text may have, before whose end nothing is at fault, and then the first line of one more: a text
-- goes on with it, and does not end with it
pub record IsTooManyNodes (Meets : Demand) (input : List ℕ) : Type 0 where
  pub lines : List (List ℕ)
  pub next : List ℕ
  pub rest : List ℕ
  pub parts : input ≡ text_of (lines ++ next ∷ []) ++ rest
  pub faultless : AreFaultless Meets lines
  pub full : length faultless.nodes ≡ most_nodes
  pub goes_on : Begins AreTreeLines (lines ++ next ∷ [])
  pub unended : ¬ AreTreeLines (lines ++ next ∷ [])

-- a line with more bytes than a line may have, before which nothing is at fault
pub record IsLongLine (Meets : Demand) (input : List ℕ) : Type 0 where
  pub lines : List (List ℕ)
  pub rest : List ℕ
  pub parts : input ≡ text_of lines ++ rest
  pub faultless : AreFaultless Meets lines
  pub long : BeginsLong rest

-- What was read has no fault: its lines have none, and the bytes behind them have no LF and may begin a short line.
pub record ReadsNoFault (Meets : Demand) (before after : Option (List ℕ)) : Type 0 where
  pub lines : List (List ℕ)
  pub held : List ℕ
  pub parts : before ≡ prepend (text_of lines ++ held) after
  pub faultless : AreFaultless Meets lines
  pub plain : ¬ HasLf held
  pub short : length held ≤ longest
