-- The nodes that ended in some lines: in lines as they are between nodes, inside a node, and behind the last line; and
-- what follows in the lines behind the nodes that ended.
use Rattle.std.proofs.Common.{◌≡◌, ◌≢◌, ℕ, ◌+◌, ◌<◌, ◌≤◌, List, [], ◌∷◌, ◌++◌, length, refl, sym, ap, ◌∙◌, subst, arith, append_assoc}
use Rattle.std.proofs.Common.{length-append}
use Rattle.std.proofs.lemmas.List.{append-nil}
use Rattle.std.proofs.lemmas.List.Elements.{All-nil, All-cons, All-head, All-tail}
use Rattle.std.proofs.lemmas.Grind.{flat_map-append}
use Rattle.std.specs.Prelude.{flat_map, All}
use Rattle.hx_board.specs.declared.colours.Colour.{Colour}
use Rattle.hx_board.specs.declared.colours.Colour.TheVariants.{Black}
use Rattle.hx_board.specs.Cells.{IsExtent}
use Rattle.hx_tree.specs.declared.nodes.Node.{Node}
use Rattle.hx_text.specs.declared.versions.Version.{Version}
use Rattle.hx_text.specs.declared.versions.Preamble.{Preamble}
use Rattle.hx_text.specs.Grammars.{Begins}
use Rattle.hx_text.specs.TreeTexts.{AreTreeLines, AreTreeLinesOf, NodeFits, front_lines, node_lines, end_line}
use Rattle.hx_text.specs.Lengths.{most_nodes}
use Rattle.hx_parse.proofs.Steps.{flat_map-push}
use Rattle.hx_parse.proofs.BegunNodes.{EndsInNode}
use Rattle.hx_parse.proofs.Completions.{whole_text, whole_are_of, plain, plain_fits, one}
use Rattle.hx_cmd_check.specs.Judging.{EndedIn}

pub begins_of : (lines : List (List ℕ)) (nodes : List Node) → EndedIn lines nodes → Begins AreTreeLines lines
begins_of lines nodes ended = (
  ended.rest,
  record { preamble = ended.preamble; nodes = nodes ++ ended.later; winner = ended.winner; are = ended.text },
)

-- ---- fronts of lists

-- a front of some lines, and what follows it
pub record FrontParts (front lines rest later : List (List ℕ)) : Type 0 where
  pub part : List (List ℕ)
  pub same : lines ≡ front ++ part
  pub left : part ++ rest ≡ later

front_parts : (front lines rest later : List (List ℕ)) → lines ++ rest ≡ front ++ later → length front ≤ length lines
    → FrontParts front lines rest later
front_parts [] lines rest later e long = record { part = lines; same = refl; left = e }
front_parts (first ∷ front) [] rest later e long = absurd (omega (arith, long))
front_parts (first ∷ front) (other ∷ lines) rest later e long =
    let firsts : other ≡ first = cc in
    let rests : lines ++ rest ≡ front ++ later = cc in
    let on = front_parts front lines rest later rests (omega (arith, long)) in
    record {
      part = on.part;
      same = ap (λ (l : List ℕ). l ∷ lines) firsts ∙ ap (λ (ls : List (List ℕ)). first ∷ ls) on.same;
      left = on.left;
    }

pub all_front : (preamble : Preamble) (a b : List Node) → All (NodeFits preamble) (a ++ b) → All (NodeFits preamble) a
all_front preamble [] b each = All-nil (NodeFits preamble)
all_front preamble (node ∷ a) b each =
    All-cons (NodeFits preamble) node a (All-head (NodeFits preamble) node (a ++ b) each)
    (all_front preamble a b (All-tail (NodeFits preamble) node (a ++ b) each))

pub all_back : (preamble : Preamble) (a b : List Node) → All (NodeFits preamble) (a ++ b) → All (NodeFits preamble) b
all_back preamble [] b each = each
all_back preamble (node ∷ a) b each = all_back preamble a b (All-tail (NodeFits preamble) node (a ++ b) each)

some_length : (lines : List (List ℕ)) → lines ≢ [] → 1 ≤ length lines
some_length [] some = absurd (some refl)
some_length (line ∷ lines) some = omega arith

-- a list with some node has a last one
last_split : (first : Node) (nodes : List Node) → (front : List Node) × (last : Node) × (first ∷ nodes ≡ front ++ last ∷ [])
last_split first [] = ([], first, refl)
last_split first (next ∷ nodes) =
    let rest = last_split next nodes in (first ∷ rest.0, rest.1, ap (λ (ns : List Node). first ∷ ns) rest.2)

-- ---- what follows behind the nodes that ended

long_enough : (preamble : Preamble) (nodes : List Node) (lines : List (List ℕ)) → 2 ≤ length lines
    → (nodes ≢ [] → 2 + length (flat_map node_lines nodes) ≤ length lines)
    → length (front_lines preamble ++ flat_map node_lines nodes) ≤ length lines
long_enough preamble [] lines long whole = omega (arith, long)
long_enough preamble (node ∷ nodes) lines long whole =
    let within : 2 + length (flat_map node_lines (node ∷ nodes)) ≤ length lines = whole (λ e. cc) in
    omega (arith, within)

pub ended_parts : (lines : List (List ℕ)) (nodes : List Node) (ended : EndedIn lines nodes) → 2 ≤ length lines
    → FrontParts (front_lines ended.preamble ++ flat_map node_lines nodes) lines ended.rest
    (flat_map node_lines ended.later ++ end_line (length (nodes ++ ended.later)) ended.winner ∷ [])
ended_parts lines nodes ended long =
    let front : List (List ℕ) = front_lines ended.preamble in
    let end : List (List ℕ) = end_line (length (nodes ++ ended.later)) ended.winner ∷ [] in
    let same : lines ++ ended.rest
    ≡ (front ++ flat_map node_lines nodes) ++ (flat_map node_lines ended.later ++ end) =
    ended.text.same ∙ ap (λ (ls : List (List ℕ)). (front ++ ls) ++ end) (flat_map-append node_lines nodes ended.later)
    ∙ ap (λ (ls : List (List ℕ)). front ++ ls) (append_assoc (flat_map node_lines nodes) (flat_map node_lines ended.later) end) in
    front_parts (front ++ flat_map node_lines nodes) lines ended.rest (flat_map node_lines ended.later ++ end) same
    (long_enough ended.preamble nodes lines long ended.whole)

-- where some node ended, there are two lines before it
pub long_lines : (lines : List (List ℕ)) (nodes : List Node) → EndedIn lines nodes → nodes ≢ [] → 2 ≤ length lines
long_lines lines nodes ended some = omega (arith, ended.whole some)

-- the part behind the nodes that ended has fewer lines than the next node
pub part_lacks : (lines : List (List ℕ)) (nodes : List Node) (ended : EndedIn lines nodes) (part : List (List ℕ))
    → lines ≡ (front_lines ended.preamble ++ flat_map node_lines nodes) ++ part → (next : Node) (others : List Node)
    → ended.later ≡ next ∷ others → length part < length (node_lines next)
part_lacks lines nodes ended part same next others is =
    omega (
      arith,
      ended.no_more next others is,
      ap length same,
      length-append (front_lines ended.preamble ++ flat_map node_lines nodes) part,
      length-append (flat_map node_lines nodes) part,
      ap length (flat_map-push nodes next),
      length-append (flat_map node_lines nodes) (node_lines next),
    )

-- ---- the places of a text

-- at most the title
pub none_ended : (version : Version) (lines rest : List (List ℕ)) → lines ++ rest ≡ whole_text (one version) [] (plain (one version))
    → length lines ≤ 1 → EndedIn lines []
none_ended version lines rest same short = record {
  preamble = one version;
  later = plain (one version) ∷ [];
  winner = Black;
  rest = rest;
  text = subst (AreTreeLinesOf (one version) (plain (one version) ∷ []) Black) (sym same)
      (whole_are_of (one version) [] (plain (one version)) (omega arith, omega arith, omega arith, omega arith)
      (All-nil (NodeFits (one version))) (plain_fits (one version) (omega arith, omega arith, omega arith, omega arith)) (omega arith));
  few = omega arith;
  whole = λ some. absurd (some refl);
  no_more = λ next others is. omega (arith, short);
}

-- behind the last line
pub ended_whole : (preamble : Preamble) (nodes : List Node) (winner : Colour) (lines : List (List ℕ))
    → AreTreeLinesOf preamble nodes winner lines → length nodes ≤ most_nodes → EndedIn lines nodes
ended_whole preamble nodes winner lines are few = record {
  preamble = preamble;
  later = [];
  winner = winner;
  rest = [];
  text = subst (AreTreeLinesOf preamble (nodes ++ []) winner) (sym (append-nil lines))
      (subst (λ (ns : List Node). AreTreeLinesOf preamble ns winner lines) (sym (append-nil nodes)) are);
  few = omega (arith, few, ap length (append-nil nodes));
  whole = λ some. omega (
    arith,
    ap length are.same,
    length-append (front_lines preamble ++ flat_map node_lines nodes) (end_line (length nodes) winner ∷ []),
    length-append (flat_map node_lines nodes) (end_line (length nodes) winner ∷ []),
  );
  no_more = λ next others is. cc;
}

-- behind the last of some nodes
ended_last : (preamble : Preamble) (nodes front : List Node) (last : Node) (lines : List (List ℕ))
    → IsExtent preamble.size.rows preamble.size.cols → All (NodeFits preamble) nodes → length nodes ≤ most_nodes
    → lines ≡ front_lines preamble ++ flat_map node_lines nodes → nodes ≡ front ++ last ∷ [] → EndedIn lines nodes
ended_last preamble nodes front last lines is_size each few same is =
    let winner : Colour = last.heading.winner in
    let end : List (List ℕ) = end_line (length nodes) winner ∷ [] in
    let are : AreTreeLinesOf preamble nodes winner (lines ++ end) = record {
      is_size = is_size;
      each = each;
      root = record { root = last; last = record { front = front; same = is }; same = refl };
      count = omega (arith, few);
      same = ap (λ (ls : List (List ℕ)). ls ++ end) same;
    } in
    record {
      preamble = preamble;
      later = [];
      winner = winner;
      rest = end;
      text = subst (λ (ns : List Node). AreTreeLinesOf preamble ns winner (lines ++ end)) (sym (append-nil nodes)) are;
      few = omega (arith, few, ap length (append-nil nodes));
      whole = λ some. omega (arith, ap length same);
      no_more = λ next others none. cc;
    }

-- between two nodes
pub ended_between : (preamble : Preamble) (nodes : List Node) (lines : List (List ℕ))
    → IsExtent preamble.size.rows preamble.size.cols → All (NodeFits preamble) nodes → length nodes ≤ most_nodes
    → lines ≡ front_lines preamble ++ flat_map node_lines nodes → EndedIn lines nodes
ended_between preamble [] lines is_size each few same =
    let rest : List (List ℕ) = flat_map node_lines (plain preamble ∷ []) ++ end_line 1 Black ∷ [] in
    record {
      preamble = preamble;
      later = plain preamble ∷ [];
      winner = Black;
      rest = rest;
      text = subst (AreTreeLinesOf preamble (plain preamble ∷ []) Black) (sym (ap (λ (ls : List (List ℕ)). ls ++ rest) same))
          (whole_are_of preamble [] (plain preamble) is_size each (plain_fits preamble is_size) (omega arith));
      few = omega arith;
      whole = λ some. absurd (some refl);
      no_more = λ next others is. omega (arith, ap length same);
    }
ended_between preamble (first ∷ nodes) lines is_size each few same =
    let last = last_split first nodes in
    ended_last preamble (first ∷ nodes) last.0 last.1 lines is_size each few same last.2

-- inside a node
pub ended_inside : (preamble : Preamble) (nodes : List Node) (lines : List (List ℕ)) → IsExtent preamble.size.rows preamble.size.cols
    → All (NodeFits preamble) nodes → length nodes < most_nodes → EndsInNode preamble nodes lines → EndedIn lines nodes
ended_inside preamble nodes lines is_size each few ends =
    let node : Node = ends.node in
    let front : List (List ℕ) = front_lines preamble ++ flat_map node_lines nodes in
    let end : List (List ℕ) = end_line (length (nodes ++ node ∷ [])) node.heading.winner ∷ [] in
    let longer : lines ++ ends.rest ≡ front_lines preamble ++ flat_map node_lines (nodes ++ node ∷ []) =
    ap (λ (ls : List (List ℕ)). ls ++ ends.rest) ends.same ∙ append_assoc front ends.part ends.rest
    ∙ ap (λ (ls : List (List ℕ)). front ++ ls) (sym ends.parts)
    ∙ append_assoc (front_lines preamble) (flat_map node_lines nodes) (node_lines node)
    ∙ ap (λ (ls : List (List ℕ)). front_lines preamble ++ ls) (sym (flat_map-push nodes node)) in
    let same : lines ++ (ends.rest ++ end) ≡ whole_text preamble nodes node =
    sym (append_assoc lines ends.rest end) ∙ ap (λ (ls : List (List ℕ)). ls ++ end) longer in
    record {
      preamble = preamble;
      later = node ∷ [];
      winner = node.heading.winner;
      rest = ends.rest ++ end;
      text = subst (AreTreeLinesOf preamble (nodes ++ node ∷ []) node.heading.winner) (sym same)
          (whole_are_of preamble nodes node is_size each ends.fits (omega (arith, few)));
      few = omega (arith, few, length-append nodes (node ∷ []));
      whole = λ some. omega (
        arith,
        ap length ends.same,
        length-append front ends.part,
        length-append (flat_map node_lines nodes) ends.part,
      );
      no_more = λ next others is. lacks next others is;
    }
  where
    lacks : (next : Node) (others : List Node) → ends.node ∷ [] ≡ next ∷ others
        → length lines < 2 + length (flat_map node_lines (nodes ++ next ∷ []))
    lacks next others is =
        let first : ends.node ≡ next = cc in
        omega (
          arith,
          ap length ends.same,
          length-append (front_lines preamble ++ flat_map node_lines nodes) ends.part,
          length-append (flat_map node_lines nodes) ends.part,
          ap length ends.parts,
          length-append ends.part ends.rest,
          some_length ends.rest ends.lacks,
          ap (λ (n : Node). length (node_lines n)) first,
          ap length (flat_map-push nodes next),
          length-append (flat_map node_lines nodes) (node_lines next),
        )
