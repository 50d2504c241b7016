-- One more line at each place of a tree's text outside of its nodes: after a node's last line the lines are those of
-- one node more, and a line that no reader takes is not of the grammar in its place.
use Rattle.std.proofs.Common.{◌≡◌, ℕ, ◌+◌, ◌<◌, List, [], ◌∷◌, ◌++◌, length, refl, sym, ap, ◌∙◌}
use Rattle.std.proofs.Common.{subst, arith, append_assoc, length-append, Option, Some, None}
use Rattle.std.proofs.lemmas.List.{append-nil}
use Rattle.std.proofs.lemmas.List.Elements.{All-head, All-push}
use Rattle.std.proofs.lemmas.Grind.{flat_map-append}
use Rattle.std.specs.Prelude.{flat_map, All}
use Rattle.hx_board.specs.declared.colours.Colour.{Colour}
use Rattle.hx_board.specs.Cells.{IsExtent}
use Rattle.hx_tree.specs.declared.nodes.Node.{Node}
use Rattle.hx_text.specs.declared.versions.Version.{Version}
use Rattle.hx_text.specs.declared.versions.Preamble.{Preamble}
use Rattle.hx_parse.specs.declared.so_far.SoFar.{SoFar}
use Rattle.hx_parse.specs.declared.places.Place.{Place}
use Rattle.hx_parse.specs.declared.places.Place.TheVariants.{After}
use Rattle.hx_lex.specs.Words.{IsNumber}
use Rattle.hx_text.specs.Grammars.{Begins}
use Rattle.hx_text.specs.TreeTexts.{AreTreeLines, AreTreeLinesOf, IsRootWinner, NodeFits}
use Rattle.hx_text.specs.TreeTexts.{head_of, first_line, node_lines, title_line, front_lines, end_line}
use Rattle.hx_text.specs.Lengths.{most_nodes}
use Rattle.hx_parse.specs.Places.{IsLastWinner, StandsSoFar, IsNoHead, Stands}
use Rattle.hx_lex.proofs.Ends.{push-some, push_injective}
use Rattle.hx_text.proofs.Injective.{end_injective}
use Rattle.hx_text.proofs.NodeInjective.{first_not_end}
use Rattle.hx_text.proofs.Alignment.{Aligned, aligned}
use Rattle.hx_text.proofs.NodeParts.{first_line-head, head_fits}

-- the title
pub title_wrong : (nodes : List Node) (lines : List (List ℕ)) (line : List ℕ) → lines ≡ []
    → ((version : Version) → line ≡ title_line version → ⊥)
    → Begins AreTreeLines (lines ++ line ∷ []) → ⊥
title_wrong nodes lines line none other begins =
    let same : ([] ++ line ∷ []) ++ begins.0 ≡ front_lines begins.1.preamble ++ flat_map node_lines begins.1.nodes ++ end_line
    (length begins.1.nodes) begins.1.winner ∷ [] =
    ap (λ (ls : List (List ℕ)). (ls ++ line ∷ []) ++ begins.0) (sym none) ∙ begins.1.are.same in
    let first : line ≡ title_line begins.1.preamble.version = cc in
    other begins.1.preamble.version first

pub flat_map-push : (nodes : List Node) (node : Node)
    → flat_map node_lines (nodes ++ node ∷ []) ≡ flat_map node_lines nodes ++ node_lines node
flat_map-push nodes node = flat_map-append node_lines nodes (node ∷ [])
    ∙ ap (λ (ls : List (List ℕ)). flat_map node_lines nodes ++ ls) (append-nil (node_lines node))

-- a whole node more
pub stands_more : (so_far : SoFar) (node : Node) (count : ℕ) (nodes : List Node) (lines : List (List ℕ))
    → StandsSoFar so_far nodes lines → so_far.count < most_nodes → count ≡ so_far.count + 1 → NodeFits so_far.preamble node
    → StandsSoFar (record { preamble = so_far.preamble; count = count; winner = Some node.heading.winner }) (nodes ++ node ∷ [])
    (lines ++ node_lines node)
stands_more so_far node count nodes lines stands under is fits = record {
  is_size = stands.is_size;
  each = All-push (NodeFits so_far.preamble) nodes node stands.each fits;
  winner = record { root = node; last = record { front = nodes; same = refl }; same = refl };
  count = is ∙ ap (λ (n : ℕ). n + 1) stands.count ∙ sym (length-append nodes (node ∷ []));
  room = omega (arith, is);
  same = ap (λ (ls : List (List ℕ)). ls ++ node_lines node) stands.same
      ∙ append_assoc (front_lines so_far.preamble) (flat_map node_lines nodes) (node_lines node)
      ∙ ap (λ (ls : List (List ℕ)). front_lines so_far.preamble ++ ls) (sym (flat_map-push nodes node));
}

winner_same : (nodes : List Node) (last : Option Colour) (winner : Colour) → IsLastWinner nodes last → IsRootWinner nodes winner
    → last ≡ Some winner
winner_same nodes None winner none root = absurd (push-some root.last.front root.root (sym root.last.same ∙ none))
winner_same nodes (Some w) winner last root =
    ap (λ (c : Colour). Some c)
    (sym last.same ∙ ap (λ (n : Node). n.heading.winner)
    (push_injective last.last.front root.last.front last.root root.root (sym last.last.same ∙ root.last.same)).1 ∙ root.same)

same_lines : (preamble : Preamble) (nodes : List Node) (winner : Colour) (lines : List (List ℕ)) (line : List ℕ) (rest : List (List ℕ))
    → AreTreeLinesOf preamble nodes winner ((lines ++ line ∷ []) ++ rest) → AreTreeLinesOf preamble nodes winner (lines ++ line ∷ rest)
same_lines preamble nodes winner lines line rest are =
    subst (AreTreeLinesOf preamble nodes winner) (append_assoc lines (line ∷ []) rest) are

wrong_more : {so_far : SoFar} {line : List ℕ} (nodes all : List Node) {rest : List (List ℕ)} (preamble : Preamble) (winner : Colour)
    (whole : List (List ℕ)) (more : List Node)
    → IsNoHead so_far.preamble line
    → ((count : ℕ) (w : Colour) → IsNumber count → line ≡ end_line count w → count ≡ so_far.count → so_far.winner ≡ Some w → ⊥)
    → so_far.count ≡ length nodes → IsLastWinner nodes so_far.winner → AreTreeLinesOf preamble all winner whole → all ≡ nodes ++ more
    → All (NodeFits so_far.preamble) more → line ∷ rest ≡ flat_map node_lines more ++ end_line (length all) winner ∷ [] → ⊥
wrong_more {so_far} {line} nodes all {rest} preamble winner whole [] no_head no_end counted last are nodes_are fits rest_is =
    let same : all ≡ nodes = nodes_are ∙ append-nil nodes in
    let first : line ≡ end_line (length all) winner = cc in
    no_end (length all) winner are.count first (ap length same ∙ sym counted)
    (winner_same nodes so_far.winner winner last (subst (λ (ns : List Node). IsRootWinner ns winner) same are.root))
wrong_more {so_far} {line} nodes all {rest} preamble winner whole (node ∷ more) no_head no_end counted last are nodes_are fits rest_is =
    let first : line ≡ first_line node = cc in
    no_head (head_of node) (head_fits node (All-head (NodeFits so_far.preamble) node more fits)) (first ∙ first_line-head node)

wrong_after : (so_far : SoFar) (line : List ℕ) (nodes all : List Node) (rest : List (List ℕ)) {preamble : Preamble} (winner : Colour)
    {whole lines : List (List ℕ)}
    → IsNoHead so_far.preamble line
    → ((count : ℕ) (w : Colour) → IsNumber count → line ≡ end_line count w → count ≡ so_far.count → so_far.winner ≡ Some w → ⊥)
    → StandsSoFar so_far nodes lines → AreTreeLinesOf preamble all winner whole
    → Aligned so_far.preamble nodes (line ∷ rest) preamble all winner → ⊥
wrong_after so_far line nodes all rest {preamble} winner {whole} no_head no_end stands are on =
    wrong_more nodes all preamble winner whole on.on.more no_head no_end stands.count stands.winner are on.on.nodes_are on.on.fits
    on.on.rest_is

-- no line is right but a first line of a node, or the last line of the text
pub between_wrong : (so_far : SoFar) (line : List ℕ) (nodes : List Node) (lines : List (List ℕ)) → IsNoHead so_far.preamble line
    → ((count : ℕ) (winner : Colour) → IsNumber count → line ≡ end_line count winner → count ≡ so_far.count → so_far.winner ≡ Some winner
    → ⊥)
    → StandsSoFar so_far nodes lines → Begins AreTreeLines (lines ++ line ∷ []) → ⊥
between_wrong so_far line nodes lines no_head no_end stands begins =
    wrong_after so_far line nodes begins.1.nodes (begins.0) begins.1.winner no_head no_end stands begins.1.are
    (aligned so_far.preamble nodes lines (line ∷ begins.0) begins.1.preamble begins.1.nodes begins.1.winner stands.is_size stands.each
    stands.same (same_lines begins.1.preamble begins.1.nodes begins.1.winner lines line begins.0 begins.1.are))

pub count_of_end : (line : List ℕ) (count n : ℕ) (winner w : Colour) → IsNumber count → IsNumber n → line ≡ end_line count winner
    → line ≡ end_line n w → count ≡ n
count_of_end line count n winner w small few e f = (end_injective count n winner w small few (sym e ∙ f)).0

pub winner_of_end : (line : List ℕ) (count n : ℕ) (winner w : Colour) → IsNumber count → IsNumber n → line ≡ end_line count winner
    → line ≡ end_line n w → winner ≡ w
winner_of_end line count n winner w small few e f = (end_injective count n winner w small few (sym e ∙ f)).1

after_wrong : (preamble : Preamble) (winner : Colour) (nodes : List Node) (line : List ℕ) (rest : List (List ℕ)) (more : List Node)
    (end : List ℕ)
    → IsExtent preamble.size.rows preamble.size.cols → IsNumber (length nodes) → All (NodeFits preamble) more
    → end_line (length nodes) winner ∷ line ∷ rest ≡ flat_map node_lines more ++ end ∷ [] → ⊥
after_wrong preamble winner nodes line rest [] end extent small fits e = let later : line ∷ rest ≡ [] = cc in cc
after_wrong preamble winner nodes line rest (node ∷ more) end extent small fits e =
    let first : end_line (length nodes) winner ≡ first_line node = cc in
    first_not_end preamble node (length nodes) winner extent (All-head (NodeFits preamble) node more fits) small (sym first)

-- nothing follows the last line
pub end_wrong : (preamble : Preamble) (winner : Colour) (nodes : List Node) (lines : List (List ℕ)) (line : List ℕ)
    → AreTreeLinesOf preamble nodes winner lines → Begins AreTreeLines (lines ++ line ∷ []) → ⊥
end_wrong preamble winner nodes lines line are begins =
    let front : List (List ℕ) = front_lines preamble ++ flat_map node_lines nodes in
    let later : List (List ℕ) = end_line (length nodes) winner ∷ line ∷ begins.0 in
    let same : (lines ++ line ∷ []) ++ begins.0 ≡ front ++ later =
    ap (λ (ls : List (List ℕ)). (ls ++ line ∷ []) ++ begins.0) are.same
    ∙ ap (λ (ls : List (List ℕ)). ls ++ begins.0) (append_assoc front (end_line (length nodes) winner ∷ []) (line ∷ []))
    ∙ append_assoc front (end_line (length nodes) winner ∷ line ∷ []) begins.0 in
    let on = aligned preamble nodes front later begins.1.preamble begins.1.nodes begins.1.winner are.is_size are.each refl
    (subst (AreTreeLinesOf begins.1.preamble begins.1.nodes begins.1.winner) same begins.1.are) in
    after_wrong preamble winner nodes line begins.0 on.on.more _ are.is_size are.count on.on.fits on.on.rest_is

pub after_end_wrong : (place : Place) (preamble : Preamble) (line : List ℕ) → place ≡ After preamble
    → (nodes : List Node) (lines : List (List ℕ))
    → Stands place nodes lines → Begins AreTreeLines (lines ++ line ∷ []) → ⊥
after_end_wrong place preamble line is nodes lines stands begins =
    let ends : Stands (After preamble) nodes lines = subst (λ (p : Place). Stands p nodes lines) is stands in
    end_wrong preamble ends.0 nodes lines line ends.1 begins
