-- What a run of `solve` is good for: who is named wins, and what is left open has its cause.
use Rattle.std.specs.Prelude.{◌≡◌, ◌↔◌, ◌⊎◌, ℕ, ◌<◌, ◌≤◌, List, length, codes, Option, IfSome, Bool, true}
use Rattle.hx_io.specs.Sources.{Reading, SomeReadFailed}
use Rattle.hx_io.specs.Sinks.{Writing, SomeWriteFailed, append}
use Rattle.hx_board.specs.Graph.{HasNoChain}
use Rattle.hx_board.specs.Counts.{IsSmall}
use Rattle.hx_lines.specs.Lines.{longest}
use Rattle.hx_tree.specs.declared.nodes.Node.{Node}
use Rattle.hx_tree.specs.Plain.{ArePlain}
use Rattle.hx_tree.specs.Trees.{IsValidTree, IsRoot}
use Rattle.hx_text.specs.declared.versions.Version.TheVariants.{Two}
use Rattle.hx_text.specs.Versions.{HasTurned}
use Rattle.hx_text.specs.Grammars.{IsFaultyLine}
use Rattle.hx_text.specs.PositionTexts.{ArePositionLines}
use Rattle.hx_text.specs.TreeTexts.{IsTreeText}
use Rattle.hx_text.specs.Lengths.{most_nodes}
use Rattle.hx_proof.specs.Winners.{OnlyWinner}
use Rattle.hx_limits.specs.declared.settings.Settings.{Settings}
use Rattle.hx_answers.specs.Texts.{counted_text}
use Rattle.hx_answers.specs.Endings.{IsUnlessStopped, AnswersUnlessStopped, IsReadToEnd}
use Rattle.hx_finish.specs.declared.finishes.Finish.{Finish}
use Rattle.hx_finish.specs.Finishes.{SaysUnknown}
use Rattle.hx_cmd_solve.specs.Positions.{IsPositionText, IsTextWhere, IsNoPosition}

-- The output is the text of a valid tree, of the second version where some node is turned and else of the first; the
-- input is the text of its root's position and mover; and the root's winner wins and the other player does not.
pub record SaysSolved (plain_tree : Bool) (input : List ℕ) (taken_before taken_now : Option (List ℕ)) : Type 0 where
  pub nodes : List Node
  pub root : Node
  pub valid : IsValidTree nodes
  pub few : length nodes ≤ most_nodes
  pub last : IsRoot nodes root
  pub text : IsPositionText input root.heading.position root.heading.to_move
  pub wins : OnlyWinner root.heading
  pub tree : List ℕ
  pub is_text : IsTreeText tree nodes
  pub version : (is_text.preamble.version ≡ Two) ↔ HasTurned nodes
  pub plain : plain_tree ≡ true → ArePlain nodes
  pub output : taken_now ≡ append taken_before tree

-- The promises of an input: what each status says of it, and which status is due to it.
pub record Answers (settings : Settings) (plain_tree : Bool) (input : List ℕ) (before now : Option (List ℕ))
    (finish : Finish) : Type 0 where
  pub solved : finish.status ≡ 0 → SaysSolved plain_tree input before now
  pub small : IsTextWhere (λ board. IsSmall board settings.budget) input → IsUnlessStopped finish.status 0
  -- 3 comes for no small position
  pub unknown : finish.status ≡ 3 → IsTextWhere (λ board. ¬ IsSmall board settings.budget) input
  -- 3 comes for want of a unit for no position with a chain, unless the budget is 0
  pub no_chain : finish.status ≡ 3 → finish.tally.budgets ≡ 1 → 0 < settings.budget → IsTextWhere HasNoChain input
  pub bad_position : finish.status ≡ 4 → IsNoPosition input
  pub position_line : (line : ℕ) → length input ≤ longest → IsFaultyLine ArePositionLines input line
      → AnswersUnlessStopped (counted_text (codes "bad position ") line) 4 before now finish.status
  pub long : longest < length input → IsUnlessStopped finish.status 8
  pub too_long : finish.status ≡ 8 → longest < length input

-- The promises of `solve` with its settings, and whether the tree is to be plain, by how far its source was read before
-- and is now, how far was written to its sink, and how it ended.
pub record KeepsPromises (settings : Settings) (plain_tree : Bool) (source source_now : Reading)
    (sink sink_now : Writing) (finish : Finish) : Type 0 where
  -- those of an input are kept where the source tells what it has left
  pub answers : IfSome source.left (λ input. Answers settings plain_tree input sink.taken sink_now.taken finish)
  pub read_to_end : finish.status ≡ 0 → IsReadToEnd source.left source_now.left
  -- with 3 a refusal was counted, and the line that is written says which
  pub refusal : finish.status ≡ 3 → SaysUnknown settings sink.taken sink_now.taken finish.tally
  pub read_fault : finish.status ≡ 5 → SomeReadFailed source source_now
  pub write_fault : finish.status ≡ 6 → SomeWriteFailed sink sink_now
  pub none_else : (finish.status ≡ 0) ⊎ ((3 ≤ finish.status) × (finish.status ≤ 8))
