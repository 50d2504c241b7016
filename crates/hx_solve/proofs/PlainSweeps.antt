-- A node by moves alone is plain.
use Rattle.std.proofs.Common.{◌≡◌, ℕ, List, refl, All as Each, Option, None, Some}
use Rattle.std.specs.Prelude.{slice_get, IfSome}
use Rattle.hx_tree.specs.declared.nodes.Line.{Line}
use Rattle.hx_tree.specs.declared.nodes.Node.{Node}
use Rattle.hx_tree.specs.declared.nodes.Rule.{Rule}
use Rattle.hx_tree.specs.declared.nodes.Rule.TheVariants.{Chain, Links, Move, All, Fill, Turned}
use Rattle.hx_tree.specs.Plain.{IsChildLine, IsPlainRule, ArePlain}
use Rattle.hx_sweep.specs.Moves.{IsByMoves, AreByMoves}
use Rattle.hx_pool.proofs.LaterLists.{all-get}

line-at : (lines : List Line) → Each IsChildLine lines → (k : ℕ) (found : Option Line) → slice_get lines k ≡ found
    → IfSome found IsChildLine
line-at lines all k None there = tt
line-at lines all k (Some line) there = all-get IsChildLine lines k line all there

rule-plain : (rule : Rule) → IsByMoves rule → IsPlainRule rule
rule-plain Chain is = tt
rule-plain (Links steps) is = absurd is
rule-plain (Move cell child) is = tt
rule-plain (All steps threats lines) is = λ k. line-at lines is.2 k (slice_get lines k) refl
rule-plain (Fill steps child) is = absurd is
rule-plain (Turned child) is = absurd is

pub moves-plain : (nodes : List Node) → AreByMoves nodes → ArePlain nodes
moves-plain nodes all k default less = rule-plain _ (all k default less)
