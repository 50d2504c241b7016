-- When a node is by moves alone.
use Rattle.std.specs.Prelude.{◌≡◌, List, []}
use Rattle.std.specs.List.{All}
use Rattle.hx_tree.specs.declared.nodes.Node.{Node}
use Rattle.hx_tree.specs.declared.nodes.Rule.{Rule}
use Rattle.hx_tree.specs.declared.nodes.Rule.TheVariants.{Chain, Links, Move, All as Answers, Fill, Turned}
use Rattle.hx_tree.specs.Plain.{IsChildLine}

-- a rule that shows a chain, a move of the winner, or an answer by a child to each move of the opponent, and uses no
-- link
abbrev pub IsByMoves : Rule → Type 0
IsByMoves Chain = Unit {0}
IsByMoves (Links steps) = ⊥
IsByMoves (Move cell child) = Unit {0}
IsByMoves (Answers steps threats lines) = (steps ≡ []) × (threats ≡ []) × All IsChildLine lines
IsByMoves (Fill steps child) = ⊥
IsByMoves (Turned child) = ⊥

-- each node is by moves alone
abbrev pub AreByMoves : List Node → Type 0
AreByMoves nodes = All (λ node. IsByMoves node.rule) nodes
