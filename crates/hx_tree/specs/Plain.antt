-- When a node tells what to play.
use Rattle.std.specs.Prelude.{ℕ, List, slice_get, IfSome}
use Rattle.std.specs.List.{All}
use Rattle.hx_tree.specs.declared.nodes.Line.{Line}
use Rattle.hx_tree.specs.declared.nodes.Line.TheVariants.{Child, Under}
use Rattle.hx_tree.specs.declared.nodes.Node.{Node}
use Rattle.hx_tree.specs.declared.nodes.Rule.{Rule}
use Rattle.hx_tree.specs.declared.nodes.Rule.TheVariants.{Chain, Links, Move, All as Answers, Fill, Turned}

-- the line answers its cell by a child
abbrev pub IsChildLine : Line → Type 0
IsChildLine (Child cell child) = Unit {0}
IsChildLine (Under cell better kill) = ⊥

-- each line does so
abbrev pub AreChildLines : List Line → Type 0
AreChildLines lines = (k : ℕ) → IfSome (slice_get lines k) IsChildLine

-- a rule by a chain, by links, by a move, or by answers that are all children
abbrev pub IsPlainRule : Rule → Type 0
IsPlainRule Chain = Unit {0}
IsPlainRule (Links steps) = Unit {0}
IsPlainRule (Move cell child) = Unit {0}
IsPlainRule (Answers steps threats lines) = AreChildLines lines
IsPlainRule (Fill steps child) = ⊥
IsPlainRule (Turned child) = ⊥

abbrev pub IsPlain : Node → Type 0
IsPlain node = IsPlainRule node.rule

-- each node is plain
abbrev pub ArePlain : List Node → Type 0
ArePlain nodes = All IsPlain nodes
