-- How the reading of a tree that is to be played by stands between two lines: words for the functions inside the
-- crate alone.
use Rattle.std.specs.Prelude.{◌≡◌, ℕ, ◌≤◌, Bool, true, false, List, [], ◌∷◌, ◌++◌, length, Option}
use Rattle.std.specs.declared.result.Result.{Result}
use Rattle.std.specs.declared.result.Result.TheVariants.{Ok, Err}
use Rattle.hx_io.specs.Sources.{prepend}
use Rattle.hx_tree.specs.declared.nodes.Node.{Node as TreeNode}
use Rattle.hx_tree.specs.Plain.{IsPlain, ArePlain}
use Rattle.hx_tree.specs.Trees.{IsRoot}
use Rattle.hx_text.specs.Grammars.{text_of}
use Rattle.hx_lines.specs.Cutters.{Cutter}
use Rattle.hx_cmd_check.specs.declared.faults.Fault.TheVariants.{OutOfMemory}
use Rattle.hx_cmd_check.specs.declared.judges.Brought.{Brought}
use Rattle.hx_cmd_check.specs.declared.judges.Brought.TheVariants.{Line, Node, End}
use Rattle.hx_cmd_check.specs.Standings.{HasJudgedSome, HasReadAll, JudgedUpTo}
use Rattle.hx_play.specs.Games.{Game, game_of}
use Rattle.hx_cmd_play.specs.declared.refusals.Refusal.{Refusal}
use Rattle.hx_cmd_play.specs.declared.refusals.Refusal.TheVariants.{NoPlain, NoTree}
use Rattle.hx_cmd_play.specs.declared.trees.TreeSoFar.{TreeSoFar}
use Rattle.hx_cmd_play.specs.Refusals.{IsDue}
use Rattle.hx_cmd_play.specs.Trees.{HasReadTree, IsPlayable, most_bytes}

-- more lines of the text are to come
pub record IsGoing (so_far : TreeSoFar) : Type 0 where
  pub judged : HasJudgedSome so_far.judge
  pub unended : ¬ HasReadAll so_far.judge
  pub small : so_far.bytes ≤ most_bytes

-- these lines were judged and their nodes kept, which are plain; behind the lines some bytes are held, and then the
-- source has the others
pub record HasTaken (before : Option (List ℕ)) (so_far : TreeSoFar) (lines : List (List ℕ)) (held : List ℕ)
    (left : Option (List ℕ)) : Type 0 where
  pub upto : JudgedUpTo before so_far.judge so_far.nodes.items lines held left
  pub plain : ArePlain so_far.nodes.items
  pub bytes : so_far.bytes ≡ length (text_of lines)
  pub small : so_far.bytes ≤ most_bytes
  pub unended : ¬ HasReadAll so_far.judge

-- what one more line does, behind these lines
abbrev pub Takes : Option (List ℕ) → List (List ℕ) → TreeSoFar → Cutter → Option (List ℕ) → Type 0
    → Result Bool Refusal → Type 0
Takes before lines now cutter left rose (Ok true) = HasReadTree before now.nodes.items cutter.held left
Takes before lines now cutter left rose (Ok false) =
    HasTaken before now (lines ++ cutter.line ∷ []) cutter.held left
Takes before lines now cutter left rose (Err refusal) = IsDue before left rose refusal

-- nothing but the nodes changes, and these are they now
pub record HasNodes (old now : TreeSoFar) (nodes : List TreeNode) : Type 0 where
  pub judge : now.judge ≡ old.judge
  pub bytes : now.bytes ≡ old.bytes
  pub items : now.nodes.items ≡ nodes

-- a plain node is kept
abbrev pub KeepsNode : TreeSoFar → TreeNode → TreeSoFar → Result (Unit {0}) Refusal → Type 0
KeepsNode old node now (Ok _) = IsPlain node × HasNodes old now (old.nodes.items ++ node ∷ [])
KeepsNode old node now (Err (NoPlain k)) = (¬ IsPlain node) × (k ≡ length old.nodes.items)
KeepsNode old node now (Err (NoTree fault)) = fault ≡ OutOfMemory

-- what becomes of what a line brought
abbrev pub KeepsBrought : TreeSoFar → Brought → TreeSoFar → Result Bool Refusal → Type 0
KeepsBrought old Line now result = (result ≡ Ok false) × HasNodes old now old.nodes.items
KeepsBrought old (Node node) now (Ok ended) = (ended ≡ false) × KeepsNode old node now (Ok tt)
KeepsBrought old (Node node) now (Err refusal) = KeepsNode old node now (Err refusal)
KeepsBrought old End now result = (result ≡ Ok true) × HasNodes old now old.nodes.items

-- The text of a tree that is played by was read, and this is the game of its root; behind the text some bytes are held.
pub record HasSeated (before : Option (List ℕ)) (game : Game) (held : List ℕ) (left : Option (List ℕ)) : Type 0 where
  pub text : List ℕ
  pub nodes : List TreeNode
  pub root : TreeNode
  pub playable : IsPlayable text nodes
  pub last : IsRoot nodes root
  pub same : game ≡ game_of root.heading
  pub parts : before ≡ prepend (text ++ held) left
