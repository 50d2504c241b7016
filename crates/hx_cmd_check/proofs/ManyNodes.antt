-- One node more than `check` accepts: the lines before it are those of as many nodes as it accepts, and the next line
-- is the first one of a node.
use Rattle.std.proofs.Common.{◌≡◌, ℕ, ◌≤◌, List, [], ◌∷◌, ◌++◌, length, map, refl, sym, ap, ◌∙◌, subst, arith, append_assoc, length-append}
use Rattle.std.proofs.lemmas.List.{append-nil, nil_from_length}
use Rattle.std.proofs.lemmas.List.Elements.{All-head}
use Rattle.std.specs.Prelude.{flat_map, All}
use Rattle.hx_board.specs.declared.colours.Colour.{Colour}
use Rattle.hx_board.specs.Cells.{IsExtent}
use Rattle.hx_tree.specs.declared.nodes.Node.{Node}
use Rattle.hx_lex.specs.Words.{IsNumber, spaced}
use Rattle.hx_text.specs.declared.versions.Preamble.{Preamble}
use Rattle.hx_text.specs.Grammars.{text_of, Begins}
use Rattle.hx_text.specs.TreeTexts.{AreTreeLines, AreTreeLinesOf, NodeFits, first_line, list_words}
use Rattle.hx_text.specs.TreeTexts.{front_lines, node_lines, end_line}
use Rattle.hx_text.specs.Lengths.{most_nodes}
use Rattle.hx_text.proofs.NodeInjective.{first_not_end}
use Rattle.hx_text.proofs.Alignment.{aligned}
use Rattle.hx_parse.proofs.Steps.{end_wrong, flat_map-push}
use Rattle.hx_parse.proofs.Completions.{whole_text, whole_are}
use Rattle.hx_cmd_check.specs.Judging.{Demand, EndedIn, IsTooManyNodes}
use Rattle.hx_cmd_check.proofs.EndedNodes.{FrontParts, all_front, ended_parts, long_lines, ended_between}

-- as many nodes as a text may have, which meet the demand, and then the first line of one more
pub record ManyNodes (Meets : Demand) (input : List ℕ) : Type 0 where
  pub preamble : Preamble
  pub is_size : IsExtent preamble.size.rows preamble.size.cols
  pub nodes : List Node
  pub each : All (NodeFits preamble) nodes
  pub meets : Meets (front_lines preamble ++ flat_map node_lines nodes) nodes
  pub full : length nodes ≡ most_nodes
  pub next : Node
  pub next_fits : NodeFits preamble next
  pub rest : List ℕ
  pub parts : input ≡ text_of (front_lines preamble ++ flat_map node_lines nodes ++ first_line next ∷ []) ++ rest

-- the text is not whole with the first line of a node
only_first : (preamble : Preamble) (node : Node) (more : List Node) (count : ℕ) (winner : Colour)
    → IsExtent preamble.size.rows preamble.size.cols → NodeFits preamble node → IsNumber count
    → first_line node ∷ [] ≡ flat_map node_lines more ++ end_line count winner ∷ [] → ⊥
only_first preamble node [] count winner extent fits small e =
    let first : first_line node ≡ end_line count winner = cc in
    first_not_end preamble node count winner extent fits small first
only_first preamble node (other ∷ more) count winner extent fits small e =
    absurd (omega (arith, ap length e, length-append (flat_map node_lines (other ∷ more)) (end_line count winner ∷ [])))

first_not_last : (preamble : Preamble) (nodes : List Node) (next : Node) (lines : List (List ℕ))
    → IsExtent preamble.size.rows preamble.size.cols → All (NodeFits preamble) nodes → NodeFits preamble next
    → lines ≡ front_lines preamble ++ flat_map node_lines nodes → AreTreeLines (lines ++ first_line next ∷ []) → ⊥
first_not_last preamble nodes next lines extent each fits same are =
    let on = aligned preamble nodes lines (first_line next ∷ []) are.preamble are.nodes are.winner extent each same are.are in
    only_first preamble next on.on.more (length are.nodes) are.winner extent fits are.are.count on.on.rest_is

-- a text goes on with the first line of a node behind other nodes
begins_with_node : (preamble : Preamble) (nodes : List Node) (next : Node) (lines : List (List ℕ))
    → IsExtent preamble.size.rows preamble.size.cols → All (NodeFits preamble) nodes → NodeFits preamble next
    → length nodes ≤ most_nodes → lines ≡ front_lines preamble ++ flat_map node_lines nodes
    → Begins AreTreeLines (lines ++ first_line next ∷ [])
begins_with_node preamble nodes next lines extent each fits few same =
    let front : List (List ℕ) = front_lines preamble ++ flat_map node_lines nodes in
    let after : List (List ℕ) = map spaced (list_words next.rule) in
    let end : List (List ℕ) = end_line (length (nodes ++ next ∷ [])) next.heading.winner ∷ [] in
    let lines_are : (lines ++ first_line next ∷ []) ++ (after ++ end) ≡ whole_text preamble nodes next =
    ap (λ (ls : List (List ℕ)). (ls ++ first_line next ∷ []) ++ (after ++ end)) same
    ∙ append_assoc front (first_line next ∷ []) (after ++ end)
    ∙ sym (append_assoc front (node_lines next) end)
    ∙ ap (λ (ls : List (List ℕ)). ls ++ end)
    (append_assoc (front_lines preamble) (flat_map node_lines nodes) (node_lines next)
    ∙ ap (λ (ls : List (List ℕ)). front_lines preamble ++ ls) (sym (flat_map-push nodes next))) in
    (after ++ end, subst AreTreeLines (sym lines_are) (whole_are preamble nodes next extent each fits few))

-- so this says the same
pub too_many_of : {Meets : Demand} {input : List ℕ} → ManyNodes Meets input → IsTooManyNodes Meets input
too_many_of many =
    let lines : List (List ℕ) = front_lines many.preamble ++ flat_map node_lines many.nodes in
    record {
      lines = lines;
      next = first_line many.next;
      rest = many.rest;
      parts = many.parts;
      faultless = record {
        nodes = many.nodes;
        ended = ended_between many.preamble many.nodes lines many.is_size many.each (omega (arith, many.full)) refl;
        meets = many.meets;
      };
      full = many.full;
      goes_on = begins_with_node many.preamble many.nodes many.next lines many.is_size many.each many.next_fits (omega (arith, many.full))
          refl;
      unended = first_not_last many.preamble many.nodes many.next lines many.is_size many.each many.next_fits refl;
    }

module _ {Meets : Demand} {input : List ℕ} (many : IsTooManyNodes Meets input) where
  abbrev ended : EndedIn many.lines many.faultless.nodes
  ended = many.faultless.ended

  abbrev front : List (List ℕ)
  front = front_lines ended.preamble ++ flat_map node_lines many.faultless.nodes

  some_lines : 2 ≤ length many.lines
  some_lines =
      long_lines many.lines many.faultless.nodes ended (λ none. absurd (omega (arith, ap length none, many.full)))

  no_later : ended.later ≡ []
  no_later =
      nil_from_length ended.later (omega (arith, ended.few, many.full, length-append many.faultless.nodes ended.later))

  -- the lines are those of the nodes alone, since behind the last line nothing follows
  alone : (parts : FrontParts front many.lines ended.rest
      (flat_map node_lines ended.later ++ end_line (length (many.faultless.nodes ++ ended.later)) ended.winner ∷ []))
      → many.lines ≡ front
  alone parts = by parts.part parts.same parts.left
    where
      by : (part : List (List ℕ)) → many.lines ≡ front ++ part
          → part ++ ended.rest
          ≡ flat_map node_lines ended.later ++ end_line (length (many.faultless.nodes ++ ended.later)) ended.winner ∷ []
          → many.lines ≡ front
      by [] same left = same ∙ append-nil front
      by (line ∷ part) same left =
          let none : flat_map node_lines ended.later ≡ [] = ap (λ (ns : List Node). flat_map node_lines ns) no_later in
          let rest : length ended.rest ≡ 0 =
          omega (
            arith,
            ap length left,
            ap length none,
            length-append part ended.rest,
            length-append (flat_map node_lines ended.later) (end_line (length (many.faultless.nodes ++ ended.later)) ended.winner ∷ []),
          ) in
          let whole : many.lines ++ ended.rest ≡ many.lines =
          ap (λ (ls : List (List ℕ)). many.lines ++ ls) (nil_from_length ended.rest rest) ∙ append-nil many.lines in
          absurd (end_wrong ended.preamble ended.winner (many.faultless.nodes ++ ended.later) many.lines many.next
          (subst (AreTreeLinesOf ended.preamble (many.faultless.nodes ++ ended.later) ended.winner) whole ended.text) many.goes_on)

  is_front : many.lines ≡ front
  is_front = alone (ended_parts many.lines many.faultless.nodes ended some_lines)

  with_next : (more : List Node) (end : List ℕ) → All (NodeFits ended.preamble) more
      → many.next ∷ many.goes_on.0 ≡ flat_map node_lines more ++ end ∷ [] → ManyNodes Meets input
  with_next [] end each e =
      let none : many.goes_on.0 ≡ [] = cc in
      absurd (many.unended (subst AreTreeLines (ap (λ (ls : List (List ℕ)). (many.lines ++ many.next ∷ []) ++ ls) none
      ∙ append-nil (many.lines ++ many.next ∷ [])) many.goes_on.1))
  with_next (node ∷ more) end each e =
      let first : many.next ≡ first_line node = cc in
      record {
        preamble = ended.preamble;
        is_size = ended.text.is_size;
        nodes = many.faultless.nodes;
        each = all_front ended.preamble many.faultless.nodes ended.later ended.text.each;
        meets = subst (λ (ls : List (List ℕ)). Meets ls many.faultless.nodes) is_front many.faultless.meets;
        full = many.full;
        next = node;
        next_fits = All-head (NodeFits ended.preamble) node more each;
        rest = many.rest;
        parts = many.parts ∙ ap (λ (ls : List (List ℕ)). text_of (ls ++ many.next ∷ []) ++ many.rest) is_front
            ∙ ap (λ (l : List ℕ). text_of (front ++ l ∷ []) ++ many.rest) first;
      }

  pub many_of : ManyNodes Meets input
  many_of =
      let begins : AreTreeLines ((many.lines ++ many.next ∷ []) ++ many.goes_on.0) = many.goes_on.1 in
      let on = aligned ended.preamble many.faultless.nodes many.lines (many.next ∷ many.goes_on.0) begins.preamble begins.nodes begins.winner
      ended.text.is_size (all_front ended.preamble many.faultless.nodes ended.later ended.text.each) is_front
      (subst (AreTreeLinesOf begins.preamble begins.nodes begins.winner)
      (append_assoc many.lines (many.next ∷ []) many.goes_on.0) begins.are) in
      with_next on.on.more (end_line (length begins.nodes) begins.winner) on.on.fits on.on.rest_is
