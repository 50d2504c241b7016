-- What a run of `play` is good for: what each status tells, and that each input gets its game or its refusal.
use Rattle.std.specs.Prelude.{◌≡◌, ◌⊎◌, ℕ, List, ◌++◌, Some, IfSome}
use Rattle.hx_io.specs.Sources.{Reading, SomeReadFailed}
use Rattle.hx_io.specs.Sinks.{Writing, SomeWriteFailed}
use Rattle.hx_tree.specs.declared.nodes.Node.{Node}
use Rattle.hx_answers.specs.Texts.{read_fault_line, out_of_memory_line, too_long_line}
use Rattle.hx_answers.specs.Endings.{IsWritten, AnswersUnlessStopped}
use Rattle.hx_cmd_check.specs.Judging.{IsNoText, IsNoNode}
use Rattle.hx_cmd_check.specs.Judgements.{IsLong, no_text_line, no_node_line}
use Rattle.hx_play.specs.declared.serving.Served.{Served}
use Rattle.hx_play.specs.declared.serving.Served.TheVariants.{Chain}
use Rattle.hx_cmd_play.specs.Refusals.{no_plain_line}
use Rattle.hx_cmd_play.specs.Runs.{IsPlayStatus, Plays, PlaysBy, status_of}
use Rattle.hx_cmd_play.specs.Trees.{ArePlayable, IsNoPlain, IsPlayable, IsTooLarge}

-- A game by these nodes was served over these bytes, and ended so; or none began, since a read failed or memory was
-- wanting, and then nothing else was written.
pub data PlaysUnlessStopped (nodes : List Node) (rest : List ℕ) (source source_now : Reading) (sink sink_now : Writing)
    (status : ℕ) : Type 0 where
  Game : (served : Served) → PlaysBy nodes (Some rest) served source_now sink sink_now → status ≡ status_of served
      → PlaysUnlessStopped nodes rest source source_now sink sink_now status
  No_read : SomeReadFailed source source_now → IsWritten sink sink_now read_fault_line 5 status
      → PlaysUnlessStopped nodes rest source source_now sink sink_now status
  No_memory : IsWritten sink sink_now out_of_memory_line 7 status
      → PlaysUnlessStopped nodes rest source source_now sink sink_now status

-- The promises of `play`, by how far its source was read before and is now, how far was written to its sink, and the
-- exit status. What is said of an input is said of sources that tell what they have left.
pub record KeepsPromises (source source_now : Reading) (sink sink_now : Writing) (status : ℕ) : Type 0 where
  -- with status 0 the input begins with the text of a valid tree of plain nodes, and the output is a game by it, over
  -- the lines behind it, in which its winner has played to a chain
  pub chain : status ≡ 0 → Plays Chain source source_now sink sink_now
  -- an input that begins with the text of a tree to be played by gets a game by that tree over the bytes behind it;
  -- only a fault or want of memory comes in its place, before the first byte of a game
  pub playable : IfSome source.left (λ input. (text rest : List ℕ) (nodes : List Node) → IsPlayable text nodes
      → input ≡ text ++ rest → PlaysUnlessStopped nodes rest source source_now sink sink_now status)
  -- the line or the node that is named is the first that is at fault
  pub no_text : IfSome source.left (λ input. (line : ℕ) → IsNoText ArePlayable input line
      → AnswersUnlessStopped (no_text_line line) 1 sink.taken sink_now.taken status)
  pub no_node : IfSome source.left (λ input. (node : ℕ) → IsNoNode ArePlayable input node
      → AnswersUnlessStopped (no_node_line node) 1 sink.taken sink_now.taken status)
  pub no_plain : IfSome source.left (λ input. (node : ℕ) → IsNoPlain input node
      → AnswersUnlessStopped (no_plain_line node) 1 sink.taken sink_now.taken status)
  -- what is above a limit before its first fault is told so
  pub too_long : IfSome source.left (λ input. IsLong ArePlayable input ⊎ IsTooLarge input
      → AnswersUnlessStopped too_long_line 8 sink.taken sink_now.taken status)
  -- each fault of a read or a write has its cause, and no other status comes
  pub read_fault : status ≡ 5 → SomeReadFailed source source_now
  pub write_fault : status ≡ 6 → SomeWriteFailed sink sink_now
  pub none_else : IsPlayStatus status
