-- What the place of a reader in a text says of the lines that it has read: which nodes ended in them, that these are
-- not too many, and that the text is not whole before its last line.
use Rattle.std.proofs.Common.{◌≡◌, ℕ, ◌≤◌, List, [], ◌∷◌, ◌++◌, length, refl, sym, ap, ◌∙◌, subst, arith}
use Rattle.std.proofs.lemmas.List.{append-nil}
use Rattle.std.specs.Prelude.{flat_map}
use Rattle.hx_board.specs.declared.colours.Colour.TheVariants.{Black}
use Rattle.hx_tree.specs.declared.nodes.Node.{Node}
use Rattle.hx_text.specs.declared.versions.Version.TheVariants.{One}
use Rattle.hx_text.specs.declared.versions.Preamble.{Preamble}
use Rattle.hx_text.specs.PositionTexts.{size_line}
use Rattle.hx_parse.specs.declared.places.Place.{Place}
use Rattle.hx_parse.specs.declared.places.Place.TheVariants.{Title, Size, Between, Inside, After, Failed}
use Rattle.hx_text.specs.TreeTexts.{AreTreeLines, AreTreeLinesOf, front_lines, node_lines, end_line}
use Rattle.hx_parse.specs.Places.{Stands, IsAfter}
use Rattle.hx_text.specs.Lengths.{most_nodes}
use Rattle.hx_cmd_check.specs.Judging.{EndedIn}
use Rattle.hx_text.proofs.Alignment.{aligned}
use Rattle.hx_parse.proofs.Completions.{whole_text, plain, one}
use Rattle.hx_cmd_check.proofs.EndedNodes.{none_ended, ended_between, ended_inside, ended_whole}
use Rattle.hx_parse.proofs.BegunNodes.{inside_begins_node, in_node_not_whole}

pub ended_in : (place : Place) (nodes : List Node) (lines : List (List ℕ)) → Stands place nodes lines → length nodes ≤ most_nodes
    → EndedIn lines nodes
ended_in Title nodes lines stands few =
    let rest : List (List ℕ) = whole_text (one One) [] (plain (one One)) in
    subst (EndedIn lines) (sym stands.0)
    (none_ended One lines rest (ap (λ (ls : List (List ℕ)). ls ++ rest) stands.1) (omega (arith, ap length stands.1)))
ended_in (Size version) nodes lines stands few =
    let preamble : Preamble = one version in
    let rest : List (List ℕ) = size_line preamble.size ∷ (flat_map node_lines (plain preamble ∷ []) ++ end_line 1 Black ∷ []) in
    subst (EndedIn lines) (sym stands.0)
    (none_ended version lines rest (ap (λ (ls : List (List ℕ)). ls ++ rest) stands.1) (omega (arith, ap length stands.1)))
ended_in (Between so_far) nodes lines stands few =
    ended_between so_far.preamble nodes lines stands.is_size stands.each few stands.same
ended_in (Inside begun) nodes lines stands few =
    let so = stands.begun_so in
    ended_inside begun.so_far.preamble nodes lines so.stands.is_size so.stands.each (omega (arith, so.room, so.stands.count))
    (inside_begins_node begun nodes lines stands)
ended_in (After preamble) nodes lines stands few = ended_whole preamble nodes stands.0 lines stands.1 few
ended_in (Failed fault version) nodes lines stands few = absurd stands

pub few_nodes : (place : Place) (nodes : List Node) (lines : List (List ℕ)) → ¬ IsAfter place → Stands place nodes lines
    → length nodes ≤ most_nodes
few_nodes Title nodes lines other stands = omega (arith, ap length stands.0)
few_nodes (Size version) nodes lines other stands = omega (arith, ap length stands.0)
few_nodes (Between so_far) nodes lines other stands = omega (arith, stands.room, stands.count)
few_nodes (Inside begun) nodes lines other stands = omega (arith, stands.begun_so.room, stands.begun_so.stands.count)
few_nodes (After preamble) nodes lines other stands = absurd (other (preamble, refl))
few_nodes (Failed fault version) nodes lines other stands = absurd stands

no_end_line : (more : List Node) (end : List ℕ) → [] ≡ flat_map node_lines more ++ end ∷ [] → ⊥
no_end_line [] end e = cc
no_end_line (node ∷ more) end e = cc

lines-none : (lines : List (List ℕ)) → AreTreeLines lines → lines ≡ [] → ⊥
lines-none lines are none =
    let e : [] ≡ front_lines are.preamble ++ flat_map node_lines are.nodes ++ end_line (length are.nodes) are.winner ∷ [] = sym none
    ∙ are.are.same in cc

lines-one : (lines : List (List ℕ)) (line : List ℕ) → AreTreeLines lines → lines ≡ line ∷ [] → ⊥
lines-one lines line are one =
    let e : line ∷ [] ≡ front_lines are.preamble ++ flat_map node_lines are.nodes ++ end_line (length are.nodes) are.winner ∷ [] =
    sym one
    ∙ are.are.same in cc

-- the text is not whole before its last line
pub not_whole : (place : Place) (nodes : List Node) (lines : List (List ℕ)) → ¬ IsAfter place → Stands place nodes lines
    → AreTreeLines lines → ⊥
not_whole Title nodes lines other stands are = lines-none lines are stands.1
not_whole (Size version) nodes lines other stands are = lines-one lines _ are stands.1
not_whole (Between so_far) nodes lines other stands are =
    let on = aligned so_far.preamble nodes lines [] are.preamble are.nodes are.winner stands.is_size stands.each stands.same
    (subst (AreTreeLinesOf are.preamble are.nodes are.winner) (sym (append-nil lines)) are.are) in
    no_end_line on.on.more _ on.on.rest_is
not_whole (Inside begun) nodes lines other stands are =
    in_node_not_whole begun.so_far.preamble nodes lines stands.begun_so.stands.is_size stands.begun_so.stands.each
    (inside_begins_node begun nodes lines stands) are
not_whole (After preamble) nodes lines other stands are = other (preamble, refl)
not_whole (Failed fault version) nodes lines other stands are = stands
