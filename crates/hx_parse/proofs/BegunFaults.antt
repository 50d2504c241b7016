-- Inside a node no line is right but that of an entry of the kind that is due: a text that begins with the lines before
-- it goes on with a node whose first line is the same, so it has as many entries of each kind, and this line is the
-- next of them.
use Rattle.std.proofs.Common.{◌≡◌, ℕ, ◌<◌, List, [], ◌∷◌, ◌++◌, length, map, refl, sym, ap, ◌∙◌, subst, arith, append_assoc, Some}
use Rattle.std.specs.Prelude.{flat_map, slice_get, All}
use Rattle.std.proofs.lemmas.List.Elements.{All-head}
use Rattle.hx_board.specs.declared.colours.Colour.{Colour}
use Rattle.hx_board.specs.Cells.{Extent, IsExtent}
use Rattle.hx_tree.specs.declared.nodes.Rule.{Rule}
use Rattle.hx_tree.specs.declared.nodes.Node.{Node}
use Rattle.hx_text.specs.declared.entries.Entry.{Entry}
use Rattle.hx_text.specs.declared.heads.Opening.{Opening}
use Rattle.hx_text.specs.declared.heads.Head.{Head}
use Rattle.hx_parse.specs.declared.begun_nodes.Begun.{Begun}
use Rattle.hx_text.specs.declared.versions.Preamble.{Preamble}
use Rattle.hx_lex.specs.Words.{IsNumber}
use Rattle.hx_text.specs.Grammars.{Begins}
use Rattle.hx_text.specs.Entries.{entry_line, kind_of, EntryFits, EachEntryFits, entries_of, opening_of, entries_told}
use Rattle.hx_parse.specs.EntryReads.{IsEntryLine, kind_at}
use Rattle.hx_text.specs.TreeTexts.{AreTreeLines, AreTreeLinesOf, NodeFits, HeadFits, head_of, head_line, node_lines, end_line}
use Rattle.hx_parse.specs.Places.{entries_in, StandsInside, kind_due}
use Rattle.hx_parse.proofs.EntryKinds.{kind_of_entry}
use Rattle.hx_text.proofs.EntryLists.{length-entries_for, length-entries_of}
use Rattle.hx_text.proofs.NodeInjective.{head_injective, head_not_end}
use Rattle.hx_text.proofs.Alignment.{aligned}
use Rattle.hx_parse.proofs.BegunSteps.{kind_due-at}
use Rattle.hx_text.proofs.NodeParts.{node_lines-parts, head_fits, entries_fit}

-- the line of the entry at a place
record IsEntryAt (size : Extent) (all : List Entry) (place : ℕ) (line : List ℕ) : Type 0 where
  entry : Entry
  there : slice_get all place ≡ Some entry
  fits : EntryFits size entry
  same : line ≡ entry_line entry

next_of_entries : (size : Extent) (done all : List Entry) (line : List ℕ) (xs ys : List (List ℕ)) → length done < length all
    → EachEntryFits size all → map entry_line done ++ line ∷ xs ≡ map entry_line all ++ ys → IsEntryAt size all (length done) line
next_of_entries size [] [] line xs ys less fits e = absurd (omega arith)
next_of_entries size [] (first ∷ all) line xs ys less fits e = record { entry = first; there = refl; fits = fits.0; same = cc }
next_of_entries size (first ∷ done) [] line xs ys less fits e = absurd (omega arith)
next_of_entries size (first ∷ done) (next ∷ all) line xs ys less fits e =
    let tails : map entry_line done ++ line ∷ xs ≡ map entry_line all ++ ys = cc in
    let at = next_of_entries size done all line xs ys (omega arith) fits.1 tails in
    record { entry = at.entry; there = at.there; fits = at.fits; same = at.same }

-- the line of an entry that fits, of the kind of its place
record IsNext (size : Extent) (opening : Opening) (place : ℕ) (line : List ℕ) : Type 0 where
  entry : Entry
  fits : EntryFits size entry
  kind : kind_of entry ≡ kind_at opening place
  same : line ≡ entry_line entry

next_of_rule : (size : Extent) (done : List Entry) (opening : Opening) (rule : Rule) (line : List ℕ) (xs ys : List (List ℕ))
    → length done < entries_told opening → opening ≡ opening_of rule → EachEntryFits size (entries_of rule)
    → map entry_line done ++ line ∷ xs ≡ map entry_line (entries_of rule) ++ ys → IsNext size opening (length done) line
next_of_rule size done opening rule line xs ys less same fits e =
    let as_many : entries_told opening ≡ length (entries_of rule) =
    ap (λ (o : Opening). entries_told o) same ∙ sym (length-entries_of rule) in
    let at = next_of_entries size done (entries_of rule) line xs ys (omega (arith, as_many, less)) fits e in
    record {
      entry = at.entry;
      fits = at.fits;
      kind = kind_of_entry rule (length done) at.entry at.there ∙ ap (λ (o : Opening). kind_at o (length done)) (sym same);
      same = at.same;
    }

next_of_nodes : (preamble : Preamble) (head : Head) (done : List Entry) (line : List ℕ) (rest : List (List ℕ)) (more : List Node)
    (count : ℕ)
    (winner : Colour) → IsExtent preamble.size.rows preamble.size.cols → HeadFits preamble head → IsNumber count
    → length done < entries_told head.opening
    → All (NodeFits preamble) more
    → head_line head ∷ (map entry_line done ++ line ∷ rest) ≡ flat_map node_lines more ++ end_line count winner ∷ []
    → IsNext preamble.size head.opening (length done) line
next_of_nodes preamble head done line rest [] count winner extent fits_head small less fits e =
    let first : head_line head ≡ end_line count winner = cc in
    absurd (head_not_end preamble head count winner extent fits_head small first)
next_of_nodes preamble head done line rest (node ∷ more) count winner extent fits_head small less fits e =
    let parts : head_line head ∷ (map entry_line done ++ line ∷ rest)
    ≡ ((head_line (head_of node) ∷ map entry_line (entries_of node.rule)) ++ flat_map node_lines more) ++ end_line count winner ∷ [] =
    e ∙ ap (λ (ls : List (List ℕ)). (ls ++ flat_map node_lines more) ++ end_line count winner ∷ []) (node_lines-parts node) in
    let fits_node : NodeFits preamble node = All-head (NodeFits preamble) node more fits in
    let first : head_line head ≡ head_line (head_of node) = cc in
    let later : List (List ℕ) = flat_map node_lines more ++ end_line count winner ∷ [] in
    let tails : map entry_line done ++ line ∷ rest ≡ (map entry_line (entries_of node.rule) ++ flat_map node_lines more)
    ++ end_line count winner ∷ [] = cc in
    let heads : head ≡ head_of node = head_injective preamble head (head_of node) extent fits_head (head_fits node fits_node) first in
    next_of_rule preamble.size done head.opening node.rule line rest later less (ap (λ (h : Head). h.opening) heads)
    (entries_fit node fits_node)
    (tails ∙ append_assoc (map entry_line (entries_of node.rule)) (flat_map node_lines more) (end_line count winner ∷ []))

pub inside_wrong : (begun : Begun) (line : List ℕ) (nodes : List Node) (lines : List (List ℕ))
    → ((entry : Entry) → IsEntryLine begun.so_far.preamble.size (kind_due begun) entry → line ≡ entry_line entry → ⊥)
    → StandsInside begun nodes lines → Begins AreTreeLines (lines ++ line ∷ []) → ⊥
inside_wrong begun line nodes lines no_entry inside begins =
    let stands = inside.begun_so in
    let done : List Entry = entries_in begun in
    let later : List (List ℕ) = head_line begun.head ∷ (map entry_line done ++ line ∷ begins.0) in
    let same : (lines ++ line ∷ []) ++ begins.0 ≡ stands.before ++ later =
    append_assoc lines (line ∷ []) begins.0 ∙ ap (λ (ls : List (List ℕ)). ls ++ line ∷ begins.0) stands.same
    ∙ append_assoc stands.before (head_line begun.head ∷ map entry_line done) (line ∷ begins.0) in
    let on = aligned begun.so_far.preamble nodes stands.before later begins.1.preamble begins.1.nodes begins.1.winner stands.stands.is_size
    stands.stands.each stands.stands.same (subst (AreTreeLinesOf begins.1.preamble begins.1.nodes begins.1.winner) same begins.1.are) in
    let less : length done < entries_told begun.head.opening =
    omega (
      arith,
      length-entries_for begun.steps.items begun.threats.items begun.lines.items begun.fills.items,
      stands.in_order.missing,
      inside.lacks,
    ) in
    let next = next_of_nodes begun.so_far.preamble begun.head done line begins.0 on.on.more (length begins.1.nodes) begins.1.winner
    stands.stands.is_size stands.head begins.1.are.count less on.on.fits on.on.rest_is in
    no_entry next.entry (next.fits, next.kind ∙ sym (kind_due-at begun stands.in_order)) next.same
