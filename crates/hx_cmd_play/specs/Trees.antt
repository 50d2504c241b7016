-- The text of a tree that is played by, and where an input does not begin with one.
use Rattle.std.specs.Prelude.{◌≡◌, ℕ, ◌<◌, ◌≤◌, List, [], ◌∷◌, ◌++◌, length, Option}
use Rattle.hx_io.specs.Sources.{prepend}
use Rattle.hx_tree.specs.declared.nodes.Node.{Node}
use Rattle.hx_tree.specs.Rules.{IsRightNode}
use Rattle.hx_tree.specs.Plain.{IsPlain, ArePlain}
use Rattle.hx_tree.specs.Trees.{AreRight, IsValidTree, headings_of}
use Rattle.hx_text.specs.Grammars.{text_of}
use Rattle.hx_text.specs.TreeTexts.{AreTreeLines, IsTreeText}
use Rattle.hx_text.specs.Lengths.{most_nodes}
use Rattle.hx_cmd_check.specs.Judging.{EndedIn}

-- the most bytes of the text of a tree that is played by
abbrev pub most_bytes : ℕ
most_bytes = 16777216

-- The bytes are the text of a valid tree of plain nodes, and no more than the text of a tree to be played by may have.
pub record IsPlayable (text : List ℕ) (nodes : List Node) : Type 0 where
  pub is_text : IsTreeText text nodes
  pub valid : IsValidTree nodes
  pub plain : ArePlain nodes
  pub few : length nodes ≤ most_nodes
  pub small : length text ≤ most_bytes

-- What is asked of the lines and nodes before a fault: the nodes are right and plain, the lines have no more bytes than
-- a text may have, and they are no whole text.
pub record ArePlayable (lines : List (List ℕ)) (nodes : List Node) : Type 0 where
  pub right : AreRight nodes
  pub plain : ArePlain nodes
  pub small : length (text_of lines) ≤ most_bytes
  pub unended : ¬ AreTreeLines lines

-- This node, counted from 0, is right and not plain, and nothing before its last line is at fault.
pub record IsNoPlain (input : List ℕ) (k : ℕ) : Type 0 where
  pub lines : List (List ℕ)
  pub last : List ℕ
  pub rest : List ℕ
  pub parts : input ≡ text_of (lines ++ last ∷ []) ++ rest
  pub earlier : List Node
  pub node : Node
  pub ended : EndedIn (lines ++ last ∷ []) (earlier ++ node ∷ [])
  pub meets : ArePlayable lines earlier
  pub is_right : IsRightNode (headings_of earlier) node
  pub not_plain : ¬ IsPlain node
  pub count : k ≡ length earlier

-- With this line the text has more bytes than it may have; the line is not at fault, nor is anything before it, and the
-- text did not end before it.
pub record IsTooLarge (input : List ℕ) : Type 0 where
  pub lines : List (List ℕ)
  pub last : List ℕ
  pub rest : List ℕ
  pub parts : input ≡ text_of (lines ++ last ∷ []) ++ rest
  pub nodes : List Node
  pub ended : EndedIn (lines ++ last ∷ []) nodes
  pub right : AreRight nodes
  pub plain : ArePlain nodes
  pub small : length (text_of lines) ≤ most_bytes
  pub unended : ¬ AreTreeLines lines
  pub large : most_bytes < length (text_of (lines ++ last ∷ []))

-- The text of a tree that is played by came first; behind it some bytes are held, and then the source has the others.
pub record HasReadTree (before : Option (List ℕ)) (nodes : List Node) (held : List ℕ) (left : Option (List ℕ))
    : Type 0 where
  pub text : List ℕ
  pub is : IsPlayable text nodes
  pub parts : before ≡ prepend (text ++ held) left
