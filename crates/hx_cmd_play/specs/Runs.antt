-- A run of the command `play`.
use Rattle.std.specs.Prelude.{◌≡◌, ◌⊎◌, ℕ, ◌≤◌, List, Option}
use Rattle.hx_io.specs.Sources.{Reading, SomeReadFailed, prepend}
use Rattle.hx_io.specs.Sinks.{Writing, SomeWriteFailed}
use Rattle.hx_tree.specs.declared.nodes.Node.{Node}
use Rattle.hx_tree.specs.Trees.{IsRoot}
use Rattle.hx_answers.specs.Endings.{IsWritten}
use Rattle.hx_play.specs.declared.serving.Served.{Served}
use Rattle.hx_play.specs.declared.serving.Served.TheVariants.{Chain, Unfinished, ReadFault, WriteFault, TooLong}
use Rattle.hx_play.specs.Games.{Game, game_of}
use Rattle.hx_play.specs.Serving.{Ends}
use Rattle.hx_cmd_play.specs.declared.refusals.Refusal.{Refusal}
use Rattle.hx_cmd_play.specs.Refusals.{IsDue, refusal_text, status_of_refusal}
use Rattle.hx_cmd_play.specs.Trees.{IsPlayable}

-- the exit status of each end of a game
abbrev pub status_of : Served → ℕ
status_of Chain = 0
status_of Unfinished = 1
status_of ReadFault = 5
status_of WriteFault = 6
status_of TooLong = 8

-- an end by a fault has its cause
abbrev pub HasCause : Type 0 → Type 0 → Served → Type 0
HasCause rose sink_rose Chain = Unit {0}
HasCause rose sink_rose Unfinished = Unit {0}
HasCause rose sink_rose ReadFault = rose
HasCause rose sink_rose WriteFault = sink_rose
HasCause rose sink_rose TooLong = Unit {0}

-- A game by these nodes was served over this stream, from the game of their root, and ended so.
pub record PlaysBy (nodes : List Node) (stream : Option (List ℕ)) (served : Served) (source_now : Reading)
    (sink sink_now : Writing) : Type 0 where
  pub root : Node
  pub last : IsRoot nodes root
  pub now : Game
  pub ends : Ends (game_of root.heading) now stream source_now.left sink.taken sink_now.taken served

-- The input begins with the text of a tree, and a game by it was served over the bytes behind the text, and ended so.
pub record Plays (served : Served) (source source_now : Reading) (sink sink_now : Writing) : Type 0 where
  pub text : List ℕ
  pub nodes : List Node
  pub playable : IsPlayable text nodes
  pub stream : Option (List ℕ)
  pub parts : source.left ≡ prepend text stream
  pub game : PlaysBy nodes stream served source_now sink sink_now
  pub cause : HasCause (SomeReadFailed source source_now) (SomeWriteFailed sink sink_now) served

-- A run of the command: a game was served, or some refusal is due, and it was written.
pub data IsPlayRun (source source_now : Reading) (sink sink_now : Writing) (status : ℕ) : Type 0 where
  Played : (served : Served) → Plays served source source_now sink sink_now → status ≡ status_of served
      → IsPlayRun source source_now sink sink_now status
  Refused : (refusal : Refusal)
      → IsDue source.left source_now.left (SomeReadFailed source source_now) refusal
      → IsWritten sink sink_now (refusal_text refusal) (status_of_refusal refusal) status
      → IsPlayRun source source_now sink sink_now status

-- a status of the command
abbrev pub IsPlayStatus : ℕ → Type 0
IsPlayStatus status = (status ≤ 1) ⊎ ((5 ≤ status) × (status ≤ 8))
