-- What a run is good for: who is named wins, and each input gets its judgement.
use Rattle.std.specs.Prelude.{◌≡◌, ◌⊎◌, ℕ, ◌≤◌, List, length, codes, Option, IfSome}
use Rattle.hx_io.specs.Sources.{Reading, SomeReadFailed}
use Rattle.hx_io.specs.Sinks.{Writing, SomeWriteFailed, append}
use Rattle.hx_tree.specs.declared.nodes.Node.{Node}
use Rattle.hx_tree.specs.Trees.{IsValidTree, IsRoot}
use Rattle.hx_text.specs.TreeTexts.{IsTreeText}
use Rattle.hx_text.specs.Lengths.{most_nodes}
use Rattle.hx_proof.specs.Winners.{OnlyWinner}
use Rattle.hx_answers.specs.Texts.{counted_text}
use Rattle.hx_answers.specs.Endings.{IsUnlessStopped, AnswersUnlessStopped, IsReadToEnd}
use Rattle.hx_cmd_check.specs.Judging.{NodesAreRight, IsNoText, IsNoNode, ReadsNoFault}
use Rattle.hx_cmd_check.specs.Judgements.{IsLong, yes_text}

-- The input is the text of a valid tree, the output names the root's winner and its position, and that player wins and
-- the other does not.
pub record SaysYes (input : List ℕ) (taken_before taken_now : Option (List ℕ)) : Type 0 where
  pub nodes : List Node
  pub root : Node
  pub text : IsTreeText input nodes
  pub valid : IsValidTree nodes
  pub last : IsRoot nodes root
  pub output : taken_now ≡ append taken_before (yes_text root.heading)
  pub wins : OnlyWinner root.heading

-- the input is the text of a valid tree of no more nodes than `check` accepts
pub record IsProof (input : List ℕ) : Type 0 where
  pub nodes : List Node
  pub text : IsTreeText input nodes
  pub few : length nodes ≤ most_nodes
  pub valid : IsValidTree nodes

-- the input is the text of no valid tree
abbrev pub IsNoProof : List ℕ → Type 0
IsNoProof input = (nodes : List Node) → IsTreeText input nodes → IsValidTree nodes → ⊥

-- The promises of an input: what each status says of it, and which status is due to it.
pub record Answers (input : List ℕ) (before now : Option (List ℕ)) (status : ℕ) : Type 0 where
  pub yes : status ≡ 0 → SaysYes input before now
  -- however many bytes it has
  pub proof : IsProof input → IsUnlessStopped status 0
  pub wrong : status ≡ 1 → IsNoProof input
  -- the line or the node that is named is the first that is at fault
  pub no_text : (line : ℕ) → IsNoText NodesAreRight input line
      → AnswersUnlessStopped (counted_text (codes "no text ") line) 1 before now status
  pub no_node : (node : ℕ) → IsNoNode NodesAreRight input node
      → AnswersUnlessStopped (counted_text (codes "no node ") node) 1 before now status
  pub long : IsLong NodesAreRight input → IsUnlessStopped status 8
  pub too_long : status ≡ 8 → IsLong NodesAreRight input

-- The promises of `check`, by how far its source was read before and is now, how far was written to its sink, and the
-- exit status.
pub record KeepsPromises (source source_now : Reading) (sink sink_now : Writing) (status : ℕ) : Type 0 where
  -- those of an input are kept where the source tells what it has left
  pub answers : IfSome source.left (λ input. Answers input sink.taken sink_now.taken status)
  pub read_to_end : status ≡ 0 → IsReadToEnd source.left source_now.left
  -- a read fault is answered where it was met before any other fault
  pub read_fault : status ≡ 5 → SomeReadFailed source source_now × ReadsNoFault NodesAreRight source.left source_now.left
  pub write_fault : status ≡ 6 → SomeWriteFailed sink sink_now
  pub none_else : (status ≤ 1) ⊎ ((5 ≤ status) × (status ≤ 8))
