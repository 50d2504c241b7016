-- A node that is whole with its first line stands in a text as the lines of any node do.
use Rattle.std.proofs.Common.{◌≡◌, ℕ, ◌+◌, ◌<◌, List, [], ◌∷◌, ◌++◌, map, sym, ap, ◌∙◌, subst, refl, Some}
use Rattle.std.specs.declared.result.Result.TheVariants.{Ok}
use Rattle.hx_tree.specs.declared.nodes.Node.{Node}
use Rattle.hx_text.specs.declared.heads.Head.{Head}
use Rattle.hx_text.specs.declared.entries.Entry.{Entry}
use Rattle.hx_parse.specs.declared.so_far.SoFar.{SoFar}
use Rattle.hx_text.specs.Entries.{EachEntryFits, entries_of, entry_line}
use Rattle.hx_text.specs.TreeTexts.{HeadFits, NodeFits, head_line, node_lines}
use Rattle.hx_text.specs.Lengths.{most_nodes}
use Rattle.hx_parse.specs.declared.places.Next.{Next}
use Rattle.hx_parse.specs.Places.{StandsSoFar, IsWhole, HasOneMore, Brings, BeginsNode, EndsNode}
use Rattle.hx_parse.proofs.Steps.{stands_more}
use Rattle.hx_text.proofs.NodeParts.{node_lines-parts, node_fits}

-- its only line is its first
whole_lines : (head : Head) (node : Node) → IsWhole head node → node_lines node ≡ head_line head ∷ []
whole_lines head node whole =
    node_lines-parts node ∙ ap (λ (h : Head). head_line h ∷ map entry_line (entries_of node.rule)) whole.0
    ∙ ap (λ (entries : List Entry). head_line head ∷ map entry_line entries) whole.1

-- it fits where its first line does
whole_fits : (so_far : SoFar) (head : Head) (node : Node) → HeadFits so_far.preamble head → IsWhole head node
    → NodeFits so_far.preamble node
whole_fits so_far head node fits whole =
    node_fits node (subst (λ (h : Head). HeadFits so_far.preamble h) (sym whole.0) fits)
    (subst (λ (entries : List Entry). EachEntryFits so_far.preamble.size entries) (sym whole.1) tt)

-- after its line the lines are those of one node more
pub stands_whole : (old new : SoFar) (head : Head) (node : Node) (line : List ℕ) (nodes : List Node) (lines : List (List ℕ))
    → StandsSoFar old nodes lines → old.count < most_nodes → HeadFits old.preamble head → line ≡ head_line head
    → IsWhole head node → HasOneMore old node new
    → StandsSoFar new (nodes ++ node ∷ []) (lines ++ line ∷ [])
stands_whole old new head node line nodes lines stands under fits same whole more =
    subst (λ (now : SoFar). StandsSoFar now (nodes ++ node ∷ []) (lines ++ line ∷ [])) (sym more)
    (subst (λ (ls : List (List ℕ)).
    StandsSoFar (record { preamble = old.preamble; count = old.count + 1; winner = Some node.heading.winner })
    (nodes ++ node ∷ []) (lines ++ ls))
    (whole_lines head node whole ∙ ap (λ (l : List ℕ). l ∷ []) (sym same))
    (stands_more old node (old.count + 1) nodes lines stands under refl (whole_fits old head node fits whole)))

-- and what comes after its line is what comes after the last line of a node
pub begins_whole : (so_far : SoFar) (head : Head) (node : Node) (next : Next) → IsWhole head node → EndsNode so_far node next
    → BeginsNode so_far head (Ok next)
begins_whole so_far head node next whole ends = λ nodes lines stands under fits.
    subst (λ (ls : List (List ℕ)). Brings next.fed next.place nodes (lines ++ ls)) (whole_lines head node whole)
    (ends nodes lines stands under (whole_fits so_far head node fits whole))
