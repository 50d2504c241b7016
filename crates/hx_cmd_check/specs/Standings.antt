-- How a reading of a tree's text stands between two lines, and what one more line brings.
use Rattle.std.specs.Prelude.{◌≡◌, ℕ, ◌≤◌, List, [], ◌∷◌, ◌++◌, length}
use Rattle.std.specs.declared.option.Option.{Option}
use Rattle.std.specs.declared.result.Result.{Result}
use Rattle.std.specs.declared.result.Result.TheVariants.{Ok, Err}
use Rattle.hx_io.specs.Sources.{prepend}
use Rattle.hx_tree.specs.declared.nodes.Heading.{Heading}
use Rattle.hx_tree.specs.declared.nodes.Node.{Node as TreeNode}
use Rattle.hx_tree.specs.Rules.{IsRightNode}
use Rattle.hx_tree.specs.Trees.{AreRight, headings_of}
use Rattle.hx_text.specs.Grammars.{text_of}
use Rattle.hx_text.specs.Lengths.{most_nodes}
use Rattle.hx_parse.specs.Places.{IsAfter}
use Rattle.hx_parse.specs.Reader.{HasRead, lines_fed}
use Rattle.hx_lines.specs.Cutters.{Cutter}
use Rattle.hx_cmd_check.specs.declared.faults.Fault.{Fault}
use Rattle.hx_cmd_check.specs.declared.faults.Fault.TheVariants.{NoText, NoNode, ReadFault, OutOfMemory, TooLong}
use Rattle.hx_cmd_check.specs.declared.judges.Judge.{Judge}
use Rattle.hx_cmd_check.specs.declared.judges.Brought.{Brought}
use Rattle.hx_cmd_check.specs.declared.judges.Brought.TheVariants.{Line, Node, End}
use Rattle.hx_cmd_check.specs.Judging.{AreThese}
use Rattle.hx_cmd_check.specs.Judgements.{IsFaultDue}

-- The judge was given these lines, these nodes ended in them and are right, and it has their headings.
pub record HasJudged (judge : Judge) (nodes : List TreeNode) (lines : List (List ℕ)) : Type 0 where
  pub read : HasRead judge.reader nodes lines
  pub counted : lines_fed judge.reader ≡ length lines
  pub few : length nodes ≤ most_nodes
  pub right : AreRight nodes
  pub same : judge.checker ≡ headings_of nodes

-- Some lines were judged.
pub record HasJudgedSome (judge : Judge) : Type 0 where
  pub nodes : List TreeNode
  pub lines : List (List ℕ)
  pub judged : HasJudged judge nodes lines

-- These lines came first in the input; behind them some bytes are held, and then the source has the others.
pub record JudgedUpTo (before : Option (List ℕ)) (judge : Judge) (nodes : List TreeNode) (lines : List (List ℕ))
    (held : List ℕ) (left : Option (List ℕ)) : Type 0 where
  pub judged : HasJudged judge nodes lines
  pub parts : before ≡ prepend (text_of lines ++ held) left

-- whether the judge was given the last line of a text
abbrev pub HasReadAll : Judge → Type 0
HasReadAll judge = IsAfter judge.reader.place

-- What one more line brings, behind these lines, in which these nodes ended: a node ends with it, the text ends with
-- it, or neither; or a fault is due, before which these are the lines and nodes.
abbrev pub Brings : Option (List ℕ) → List TreeNode → List (List ℕ) → Judge → Cutter → Option (List ℕ) → Type 0
    → Result Brought Fault → Type 0
Brings before nodes lines judge cutter left rose (Ok Line) =
    (¬ HasReadAll judge) × JudgedUpTo before judge nodes (lines ++ cutter.line ∷ []) cutter.held left
Brings before nodes lines judge cutter left rose (Ok (Node node)) =
    (¬ HasReadAll judge) × JudgedUpTo before judge (nodes ++ node ∷ []) (lines ++ cutter.line ∷ []) cutter.held left
Brings before nodes lines judge cutter left rose (Ok End) =
    HasReadAll judge × JudgedUpTo before judge nodes (lines ++ cutter.line ∷ []) cutter.held left
Brings before nodes lines judge cutter left rose (Err fault) = IsFaultDue (AreThese lines nodes) before left rose fault

-- ---- words for the functions inside the crate alone

-- what judging one more node answers: the node where it is right, and its heading was kept
abbrev pub AnswersNode : List Heading → TreeNode → List Heading → Result Brought Fault → Type 0
AnswersNode before node now (Ok Line) = ⊥
AnswersNode before node now (Ok (Node brought)) =
    IsRightNode before node × (brought ≡ node) × (now ≡ before ++ node.heading ∷ [])
AnswersNode before node now (Ok End) = ⊥
AnswersNode before node now (Err (NoText line)) = ⊥
AnswersNode before node now (Err (NoNode k)) = (¬ IsRightNode before node) × (k ≡ length before)
AnswersNode before node now (Err ReadFault) = ⊥
AnswersNode before node now (Err OutOfMemory) = Unit {0}
AnswersNode before node now (Err TooLong) = ⊥
