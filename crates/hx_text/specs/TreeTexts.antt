-- The text of a tree: its title, the size of its board, the lines of each node, and a last line.
use Rattle.std.specs.Prelude.{◌≡◌, ℕ, ◌≤◌, List, [], ◌∷◌, ◌++◌, length, map, flat_map, codes, All}
use Rattle.std.specs.Fmt.{decimal}
use Rattle.hx_board.specs.declared.colours.Colour.{Colour}
use Rattle.hx_board.specs.Cells.{IsExtent, OnBoard}
use Rattle.hx_board.specs.Positions.{IsBoard}
use Rattle.hx_tree.specs.declared.nodes.Heading.{Heading}
use Rattle.hx_tree.specs.declared.nodes.Rule.{Rule}
use Rattle.hx_tree.specs.declared.nodes.Rule.TheVariants.{Chain, Links, Move, All as Answers, Fill, Turned}
use Rattle.hx_tree.specs.declared.nodes.Node.{Node}
use Rattle.hx_tree.specs.Trees.{IsRoot}
use Rattle.hx_board.specs.declared.cells.TheConstants.{CELLS}
use Rattle.hx_tree.specs.declared.steps.TheConstants.{MOST_STEPS, MOST_THREATS}
use Rattle.hx_text.specs.declared.heads.Opening.{Opening}
use Rattle.hx_text.specs.declared.heads.Opening.TheVariants.{Chain as Chain_opening, Links as Links_opening}
use Rattle.hx_text.specs.declared.heads.Opening.TheVariants.{Move as Move_opening, All as All_opening}
use Rattle.hx_text.specs.declared.heads.Opening.TheVariants.{Fill as Fill_opening, Turned as Turned_opening}
use Rattle.hx_text.specs.declared.heads.Head.{Head}
use Rattle.hx_text.specs.declared.versions.Version.{Version}
use Rattle.hx_text.specs.declared.versions.Version.TheVariants.{Two}
use Rattle.hx_text.specs.declared.versions.Preamble.{Preamble}
use Rattle.hx_lex.specs.Words.{spaced, mask_word, colour_word, cell_word, IsNumber}
use Rattle.hx_text.specs.Grammars.{text_of}
use Rattle.hx_text.specs.Versions.{version_word}
use Rattle.hx_text.specs.PositionTexts.{size_line}
use Rattle.hx_text.specs.StepTexts.{step_words, threat_words, StepFits}
use Rattle.hx_text.specs.FillTexts.{fill_words, FillFits}
use Rattle.hx_text.specs.Entries.{answer_words, AnswerFits, opening_of}

-- the words of a rule, with which its node's first line ends
abbrev pub rule_words : Rule → List (List ℕ)
rule_words Chain = codes "chain" ∷ []
rule_words (Links steps) = codes "links" ∷ decimal (length steps) ∷ []
rule_words (Move cell child) = codes "move" ∷ cell_word cell ∷ decimal child ∷ []
rule_words (Answers steps threats lines) =
    codes "all" ∷ decimal (length steps) ∷ decimal (length threats) ∷ decimal (length lines) ∷ []
rule_words (Fill fills child) = codes "fill" ∷ decimal (length fills) ∷ decimal child ∷ []
rule_words (Turned child) = codes "turned" ∷ decimal child ∷ []

-- the first line of a node
abbrev pub first_line : Node → List ℕ
first_line node =
    spaced (codes "node" ∷ mask_word node.heading.position.black ∷ mask_word node.heading.position.white
    ∷ colour_word node.heading.to_move ∷ colour_word node.heading.winner ∷ rule_words node.rule)

-- the words of each line that follows
abbrev pub list_words : Rule → List (List (List ℕ))
list_words (Links steps) = map step_words steps
list_words (Answers steps threats lines) = map step_words steps ++ map threat_words threats ++ map answer_words lines
list_words (Fill fills child) = map fill_words fills
list_words rule = []

abbrev pub node_lines : Node → List (List ℕ)
node_lines node = first_line node ∷ map spaced (list_words node.rule)

-- the lines before the nodes
abbrev pub front_lines : Preamble → List (List ℕ)
front_lines preamble =
    spaced (codes "hextree" ∷ version_word preamble.version ∷ []) ∷ size_line preamble.size ∷ []

abbrev pub end_line : ℕ → Colour → List ℕ
end_line count winner = spaced (codes "end" ∷ decimal count ∷ colour_word winner ∷ [])

abbrev pub tree_lines : Preamble → List Node → Colour → List (List ℕ)
tree_lines preamble nodes winner =
    front_lines preamble ++ flat_map node_lines nodes ++ end_line (length nodes) winner ∷ []

-- the cells of a rule are on the board, its numbers and lists are no larger than a text may have them, and texts of the
-- second version alone have turned nodes
abbrev pub RuleFits : Preamble → Rule → Type 0
RuleFits preamble Chain = Unit {0}
RuleFits preamble (Links steps) = (length steps ≤ MOST_STEPS) × All (StepFits preamble.size) steps
RuleFits preamble (Move cell child) = OnBoard preamble.size cell × IsNumber child
RuleFits preamble (Answers steps threats lines) =
    (length steps ≤ MOST_STEPS) × (length threats ≤ MOST_THREATS) × (length lines ≤ CELLS)
    × All (StepFits preamble.size) steps × All IsNumber threats × All (AnswerFits preamble.size) lines
RuleFits preamble (Fill fills child) = (length fills ≤ CELLS) × IsNumber child × All (FillFits preamble.size) fills
RuleFits preamble (Turned child) = (preamble.version ≡ Two) × IsNumber child

-- a node on a board of the size that the text tells
pub record NodeFits (preamble : Preamble) (node : Node) : Type 0 where
  pub size_is : node.heading.position.size ≡ preamble.size
  pub board : IsBoard node.heading.position
  pub rule : RuleFits preamble node.rule

-- the winner in the last node's heading
pub record IsRootWinner (nodes : List Node) (winner : Colour) : Type 0 where
  pub root : Node
  pub last : IsRoot nodes root
  pub same : root.heading.winner ≡ winner

-- these lines are those of the nodes, of which there is one at least
pub record AreTreeLinesOf (preamble : Preamble) (nodes : List Node) (winner : Colour) (lines : List (List ℕ))
    : Type 0 where
  pub is_size : IsExtent preamble.size.rows preamble.size.cols
  pub each : All (NodeFits preamble) nodes
  pub root : IsRootWinner nodes winner
  pub count : IsNumber (length nodes)
  pub same : lines ≡ tree_lines preamble nodes winner

-- the lines of some tree's text
pub record AreTreeLines (lines : List (List ℕ)) : Type 0 where
  pub preamble : Preamble
  pub nodes : List Node
  pub winner : Colour
  pub are : AreTreeLinesOf preamble nodes winner lines

-- the bytes are the text of these nodes, of a version that has them
pub record IsTreeText (bytes : List ℕ) (nodes : List Node) : Type 0 where
  pub preamble : Preamble
  pub winner : Colour
  pub lines : List (List ℕ)
  pub are : AreTreeLinesOf preamble nodes winner lines
  pub same : bytes ≡ text_of lines

-- the bytes of a tree that is written piece by piece: the lines before the nodes, each node, the last line
abbrev pub written_tree : Preamble → List Node → Colour → List ℕ
written_tree preamble nodes winner =
    (text_of (front_lines preamble) ++ flat_map (λ node. text_of (node_lines node)) nodes)
    ++ text_of (end_line (length nodes) winner ∷ [])

-- ---- what a writer and a reader have: the first line of a text, and of a node its first line and its entries

abbrev pub title_line : Version → List ℕ
title_line version = spaced (codes "hextree" ∷ version_word version ∷ [])

-- the lists of a rule are no longer than a text may have them
abbrev pub ListsFit : Rule → Type 0
ListsFit Chain = Unit {0}
ListsFit (Links steps) = length steps ≤ MOST_STEPS
ListsFit (Move cell child) = Unit {0}
ListsFit (Answers steps threats lines) =
    (length steps ≤ MOST_STEPS) × (length threats ≤ MOST_THREATS) × (length lines ≤ CELLS)
ListsFit (Fill fills child) = length fills ≤ CELLS
ListsFit (Turned child) = Unit {0}

abbrev pub opening_words : Opening → List (List ℕ)
opening_words Chain_opening = codes "chain" ∷ []
opening_words (Links_opening steps) = codes "links" ∷ decimal steps ∷ []
opening_words (Move_opening cell child) = codes "move" ∷ cell_word cell ∷ decimal child ∷ []
opening_words (All_opening steps threats lines) = codes "all" ∷ decimal steps ∷ decimal threats ∷ decimal lines ∷ []
opening_words (Fill_opening fills child) = codes "fill" ∷ decimal fills ∷ decimal child ∷ []
opening_words (Turned_opening child) = codes "turned" ∷ decimal child ∷ []

-- the first line of a node
abbrev pub head_of : Node → Head
head_of node = record { heading = node.heading; opening = opening_of node.rule }

abbrev pub head_words : Head → List (List ℕ)
head_words head =
    codes "node" ∷ mask_word head.heading.position.black ∷ mask_word head.heading.position.white
    ∷ colour_word head.heading.to_move ∷ colour_word head.heading.winner ∷ opening_words head.opening

abbrev pub head_line : Head → List ℕ
head_line head = spaced (head_words head)

-- a position of the size that the text tells
pub record HeadingFits (preamble : Preamble) (heading : Heading) : Type 0 where
  pub size_is : heading.position.size ≡ preamble.size
  pub board : IsBoard heading.position

-- texts of the second version alone have turned nodes
abbrev pub OpeningFits : Preamble → Opening → Type 0
OpeningFits preamble Chain_opening = Unit {0}
OpeningFits preamble (Links_opening steps) = steps ≤ MOST_STEPS
OpeningFits preamble (Move_opening cell child) = OnBoard preamble.size cell × IsNumber child
OpeningFits preamble (All_opening steps threats lines) =
    (steps ≤ MOST_STEPS) × (threats ≤ MOST_THREATS) × (lines ≤ CELLS)
OpeningFits preamble (Fill_opening fills child) = (fills ≤ CELLS) × IsNumber child
OpeningFits preamble (Turned_opening child) = (preamble.version ≡ Two) × IsNumber child

-- a first line of a node on a board of this size, in a text of this version
pub record HeadFits (preamble : Preamble) (head : Head) : Type 0 where
  pub heading : HeadingFits preamble head.heading
  pub opening : OpeningFits preamble head.opening
