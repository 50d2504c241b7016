-- At most one fault with status 1 fits an input, with one number, under each demand that asks for right nodes. Nodes
-- that ended in the first lines are not more than those that ended in more lines; so where a node is wrong, no line
-- after it is at fault with right nodes before it.
use Rattle.std.proofs.Common.{◌≡◌, ℕ, ◌<◌, ◌≤◌, List, [], ◌∷◌, ◌++◌, length, refl, sym, ap, ◌∙◌, subst, arith, ⊎_elim, append_assoc}
use Rattle.std.proofs.Common.{length-append}
use Rattle.std.proofs.lemmas.Bool.{cases_lt}
use Rattle.std.proofs.lemmas.List.{append-nil, append_cancel_left}
use Rattle.std.proofs.lemmas.Grind.{flat_map-append}
use Rattle.std.specs.Prelude.{flat_map, All}
use Rattle.std.proofs.lemmas.List.Elements.{All-head, All-tail}
use Rattle.hx_board.specs.declared.colours.Colour.{Colour}
use Rattle.hx_board.specs.Cells.{IsExtent}
use Rattle.hx_tree.specs.declared.nodes.Node.{Node}
use Rattle.hx_tree.specs.Trees.{IsLeastWrong}
use Rattle.hx_tree.proofs.TreeGrowth.{least_wrong-append, least_wrong-last}
use Rattle.hx_lex.specs.Words.{IsNumber}
use Rattle.hx_text.specs.declared.versions.Preamble.{Preamble}
use Rattle.hx_text.specs.Grammars.{Begins}
use Rattle.hx_text.specs.PositionTexts.{size_line}
use Rattle.hx_text.specs.TreeTexts.{AreTreeLines, AreTreeLinesOf, NodeFits, title_line, front_lines, first_line}
use Rattle.hx_text.specs.TreeTexts.{node_lines, end_line}
use Rattle.hx_text.proofs.Cuts.{Agree, Second_goes_on, First_goes_on, agree}
use Rattle.hx_text.proofs.Alignment.{preamble_injective}
use Rattle.hx_text.proofs.NodeInjective.{first_not_end, node_cancel}
use Rattle.hx_text.proofs.OneFault.{no_more}
use Rattle.hx_text.proofs.TreeLacks.{AllLack-tree_lines, AllLack-begun}
use Rattle.hx_cmd_check.specs.Judging.{Demand, EndedIn, IsNoText, IsNoNode}
use Rattle.hx_cmd_check.proofs.Demands.{AsksRight}
use Rattle.hx_cmd_check.proofs.EndedNodes.{all_front, all_back, ended_parts, long_lines, part_lacks}
use Rattle.hx_cmd_check.proofs.Readings.{GoOn, node_end, node_begins, ended_first, right_among}

-- lines of these nodes, and then lines that begin with no whole node
record Ended (lines : List (List ℕ)) (nodes : List Node) : Type 0 where
  preamble : Preamble
  is_size : IsExtent preamble.size.rows preamble.size.cols
  each : All (NodeFits preamble) nodes
  tail : List (List ℕ)
  same : lines ≡ (front_lines preamble ++ flat_map node_lines nodes) ++ tail
  no_node : (node : Node) (rest : List (List ℕ)) → NodeFits preamble node → tail ≡ node_lines node ++ rest → ⊥

part_no_node : (preamble : Preamble) (later : List Node) (count : ℕ) (winner : Colour) (part rest : List (List ℕ))
    → IsExtent preamble.size.rows preamble.size.cols → IsNumber count → All (NodeFits preamble) later
    → part ++ rest ≡ flat_map node_lines later ++ end_line count winner ∷ []
    → ((next : Node) (others : List Node) → later ≡ next ∷ others → length part < length (node_lines next))
    → (other : Node) (more : List (List ℕ)) → NodeFits preamble other → part ≡ node_lines other ++ more → ⊥
part_no_node preamble [] count winner part rest extent small each parts lacks other more fits e =
    let same : (node_lines other ++ more) ++ rest ≡ end_line count winner ∷ [] =
    ap (λ (ls : List (List ℕ)). ls ++ rest) (sym e) ∙ parts in
    let first : first_line other ≡ end_line count winner = cc in
    first_not_end preamble other count winner extent fits small first
part_no_node preamble (next ∷ others) count winner part rest extent small each parts lacks other more fits e =
    let end : List (List ℕ) = end_line count winner ∷ [] in
    let same : node_lines other ++ (more ++ rest) ≡ node_lines next ++ (flat_map node_lines others ++ end) =
    sym (append_assoc (node_lines other) more rest) ∙ ap (λ (ls : List (List ℕ)). ls ++ rest) (sym e) ∙ parts
    ∙ append_assoc (node_lines next) (flat_map node_lines others) end in
    let nodes : other ≡ next = (node_cancel preamble other next (more ++ rest) (flat_map node_lines others ++ end) extent fits
    (All-head (NodeFits preamble) next others each) same).0 in
    absurd (omega (
      arith,
      lacks next others refl,
      ap length e,
      length-append (node_lines other) more,
      ap (λ (n : Node). length (node_lines n)) nodes,
    ))

ended_form : (lines : List (List ℕ)) (nodes : List Node) → EndedIn lines nodes → 2 ≤ length lines → Ended lines nodes
ended_form lines nodes ended long =
    let parts = ended_parts lines nodes ended long in
    record {
      preamble = ended.preamble;
      is_size = ended.text.is_size;
      each = all_front ended.preamble nodes ended.later ended.text.each;
      tail = parts.part;
      same = parts.same;
      no_node = part_no_node ended.preamble ended.later (length (nodes ++ ended.later)) ended.winner parts.part ended.rest
          ended.text.is_size ended.text.count (all_back ended.preamble nodes ended.later ended.text.each) parts.left
          (part_lacks lines nodes ended parts.part parts.same);
    }

-- of two fronts of a list the longer one goes on
record Longer (short long : List Node) : Type 0 where
  next : Node
  more : List Node
  same : long ≡ short ++ next ∷ more

one_longer : (first other : Node) (short long : List Node) (next : Node) (more : List Node) → first ≡ other → long ≡ short ++ next ∷ more
    → other ∷ long ≡ first ∷ (short ++ next ∷ more)
one_longer first other short long next more firsts same =
    ap (λ (n : Node). n ∷ long) (sym firsts) ∙ ap (λ (ns : List Node). first ∷ ns) same

longer : (short long x y : List Node) → short ++ x ≡ long ++ y → length short < length long → Longer short long
longer [] [] x y e less = absurd (omega arith)
longer [] (next ∷ more) x y e less = record { next = next; more = more; same = refl }
longer (first ∷ short) [] x y e less = absurd (omega arith)
longer (first ∷ short) (other ∷ long) x y e less =
    let firsts : first ≡ other = cc in
    let rests : short ++ x ≡ long ++ y = cc in
    let on : Longer short long = longer short long x y rests (omega arith) in
    record { next = on.next; more = on.more; same = one_longer first other short long on.next on.more firsts on.same }

fits_middle : (preamble : Preamble) (front : List Node) (node : Node) (more : List Node) → All (NodeFits preamble) (front ++ node ∷ more)
    → NodeFits preamble node
fits_middle preamble [] node more each = All-head (NodeFits preamble) node more each
fits_middle preamble (first ∷ front) node more each =
    fits_middle preamble front node more (All-tail (NodeFits preamble) first (front ++ node ∷ more) each)

-- in lines that go on, further nodes ended, or none
not_shorter : (lines more : List (List ℕ)) (a b : List Node) (form_a : Ended lines a) (form_b : Ended (lines ++ more) b) → Longer b a → ⊥
not_shorter lines more a b form_a form_b longer =
    let flat_a : List (List ℕ) = flat_map node_lines a in
    let flat_b : List (List ℕ) = flat_map node_lines b in
    let whole : (front_lines form_a.preamble ++ flat_a) ++ (form_a.tail ++ more) ≡ (front_lines form_b.preamble ++ flat_b) ++ form_b.tail =
    sym (append_assoc (front_lines form_a.preamble ++ flat_a) form_a.tail more) ∙ ap (λ (ls : List (List ℕ)). ls ++ more) (sym form_a.same)
    ∙ form_b.same in
    let titles : title_line form_a.preamble.version ≡ title_line form_b.preamble.version = cc in
    let second : size_line form_a.preamble.size ≡ size_line form_b.preamble.size = cc in
    let tails : flat_a ++ (form_a.tail ++ more) ≡ flat_b ++ form_b.tail = cc in
    let preambles : form_a.preamble ≡ form_b.preamble =
    preamble_injective form_a.preamble form_b.preamble form_a.is_size form_b.is_size titles second in
    let later : List (List ℕ) = flat_map node_lines longer.more ++ (form_a.tail ++ more) in
    let split : flat_a ++ (form_a.tail ++ more) ≡ flat_b ++ (node_lines longer.next ++ later) =
    ap (λ (ns : List Node). flat_map node_lines ns ++ (form_a.tail ++ more)) longer.same
    ∙ ap (λ (ls : List (List ℕ)). ls ++ (form_a.tail ++ more)) (flat_map-append node_lines b (longer.next ∷ longer.more))
    ∙ append_assoc flat_b (node_lines longer.next ++ flat_map node_lines longer.more) (form_a.tail ++ more)
    ∙ ap (λ (ls : List (List ℕ)). flat_b ++ ls)
    (append_assoc (node_lines longer.next) (flat_map node_lines longer.more) (form_a.tail ++ more)) in
    let fits : NodeFits form_b.preamble longer.next =
    fits_middle form_b.preamble b longer.next longer.more (subst (λ (ns : List Node). All (NodeFits form_b.preamble) ns) longer.same
    (subst (λ (p : Preamble). All (NodeFits p) a) preambles form_a.each)) in
    form_b.no_node longer.next later fits
    (append_cancel_left flat_b form_b.tail (node_lines longer.next ++ later) (sym tails ∙ split))

-- the nodes that ended in some lines are the first ones of those that ended in more lines
pub front_nodes : (lines more : List (List ℕ)) (a b : List Node) → EndedIn lines a → EndedIn (lines ++ more) b
    → Begins AreTreeLines (lines ++ more) → GoOn a b
front_nodes lines more a b ended_a ended_b begins =
    let whole : AreTreeLinesOf begins.1.preamble begins.1.nodes begins.1.winner (lines ++ (more ++ begins.0)) =
    subst (AreTreeLinesOf begins.1.preamble begins.1.nodes begins.1.winner) (append_assoc lines more begins.0) begins.1.are in
    let on_a : GoOn a begins.1.nodes =
    ended_first lines (more ++ begins.0) a begins.1.nodes begins.1.preamble begins.1.winner ended_a whole in
    let on_b : GoOn b begins.1.nodes =
    ended_first (lines ++ more) begins.0 b begins.1.nodes begins.1.preamble begins.1.winner ended_b begins.1.are in
    ⊎_elim
    (λ (less : length a < length b).
    let goes_on : Longer a b = longer a b on_a.more on_b.more (sym on_a.same ∙ on_b.same) less in
    record { more = goes_on.next ∷ goes_on.more; same = goes_on.same })
    (λ (not_less : length b ≤ length a).
    ⊎_elim
    (λ (less : length b < length a).
    let long : 2 ≤ length lines = long_lines lines a ended_a (λ none. absurd (omega (arith, ap length none))) in
    absurd (not_shorter lines more a b (ended_form lines a ended_a long)
    (ended_form (lines ++ more) b ended_b (omega (arith, long, length-append lines more)))
    (longer b a on_b.more on_a.more (sym on_b.same ∙ on_a.same) less)))
    (λ (from : length a ≤ length b). same_length a b on_a on_b (omega arith))
    (cases_lt (length b) (length a)))
    (cases_lt (length a) (length b))
  where
    equal : (a b x y : List Node) → a ++ x ≡ b ++ y → length a ≡ length b → b ≡ a
    equal [] [] x y e same = refl
    equal [] (other ∷ b) x y e same = absurd (omega arith)
    equal (first ∷ a) [] x y e same = absurd (omega arith)
    equal (first ∷ a) (other ∷ b) x y e same =
        let firsts : first ≡ other = cc in
        let rests : a ++ x ≡ b ++ y = cc in
        ap (λ (n : Node). n ∷ b) (sym firsts) ∙ ap (λ (ns : List Node). first ∷ ns) (equal a b x y rests (omega arith))

    same_length : (a b : List Node) → GoOn a begins.1.nodes → GoOn b begins.1.nodes → length a ≡ length b → GoOn a b
    same_length a b on_a on_b same =
        record { more = []; same = equal a b on_a.more on_b.more (sym on_a.same ∙ on_b.same) same ∙ sym (append-nil a) }

-- a line at fault comes after no wrong node
text_not_node_from : {Meets : Demand} → AsksRight Meets → {input : List ℕ} {line : ℕ} (k : ℕ) (text : IsNoText Meets input line)
    (node : IsNoNode Meets input k) (more : List (List ℕ)) → text.fault.before ≡ node_end node ++ more → ⊥
text_not_node_from asks k text node more is =
    let on : GoOn (node.earlier ++ node.node ∷ []) text.faultless.nodes =
    front_nodes (node_end node) more (node.earlier ++ node.node ∷ []) text.faultless.nodes node.ended
    (subst (λ (ls : List (List ℕ)). EndedIn ls text.faultless.nodes) is text.faultless.ended)
    (subst (Begins AreTreeLines) is text.fault.right) in
    node.wrong (right_among node.earlier node.node text.faultless.nodes on
    (asks text.fault.before text.faultless.nodes text.faultless.meets (length node.earlier)))

text_not_node_by : {Meets : Demand} → AsksRight Meets → (input : List ℕ) (line k : ℕ) (text : IsNoText Meets input line)
    (node : IsNoNode Meets input k) → Agree text.fault.before (node_end node) text.fault.rest node.rest → ⊥
text_not_node_by asks input line k text node (First_goes_on more is left) = text_not_node_from asks k text node more is
text_not_node_by asks input line k text node (Second_goes_on more is left) =
    let none : more ≡ [] = no_more AreTreeLines AllLack-tree_lines input line text.fault (node_end node) more node.rest is left
    (node_begins node) in
    text_not_node_from asks k text node []
    (sym (append-nil text.fault.before) ∙ ap (λ (ls : List (List ℕ)). text.fault.before ++ ls) (sym none) ∙ sym is
    ∙ sym (append-nil (node_end node)))

pub text_not_node : {Meets : Demand} → AsksRight Meets → (input : List ℕ) (line k : ℕ) → IsNoText Meets input line
    → IsNoNode Meets input k → ⊥
text_not_node asks input line k text node =
    text_not_node_by asks input line k text node
    (agree text.fault.before (node_end node) text.fault.rest node.rest (AllLack-begun text.fault.before text.fault.right)
    (AllLack-begun (node_end node) (node_begins node)) (sym text.fault.parts ∙ node.parts))

-- the first wrong node is one
one_least : (nodes : List Node) (k j : ℕ) → IsLeastWrong nodes k → IsLeastWrong nodes j → k ≡ j
one_least nodes k j first second =
    ⊎_elim
    (λ less. absurd (first.wrong (second.before k less)))
    (λ from.
    ⊎_elim (λ less. absurd (second.wrong (first.before j less))) (λ to. omega arith) (cases_lt j k))
    (cases_lt k j)

least_of : {Meets : Demand} → AsksRight Meets → {input : List ℕ} {k : ℕ} (node : IsNoNode Meets input k)
    → IsLeastWrong (node.earlier ++ node.node ∷ []) (length node.earlier)
least_of asks node = least_wrong-last node.earlier node.node (asks node.lines node.earlier node.meets) node.wrong

one_node_from : {Meets : Demand} → AsksRight Meets → (input : List ℕ) (k j : ℕ) (first : IsNoNode Meets input k)
    (second : IsNoNode Meets input j) (more : List (List ℕ)) → node_end second ≡ node_end first ++ more → k ≡ j
one_node_from asks input k j first second more is =
    let nodes : List Node = first.earlier ++ first.node ∷ [] in
    let all : List Node = second.earlier ++ second.node ∷ [] in
    let on : GoOn nodes all =
    front_nodes (node_end first) more nodes all first.ended (subst (λ (ls : List (List ℕ)). EndedIn ls all) is second.ended)
    (subst (Begins AreTreeLines) is (node_begins second)) in
    let same : length first.earlier ≡ length second.earlier =
    one_least all (length first.earlier) (length second.earlier)
    (subst (λ (ns : List Node). IsLeastWrong ns (length first.earlier)) (sym on.same)
    (least_wrong-append nodes on.more (length first.earlier) (least_of asks first))) (least_of asks second) in
    first.count ∙ same ∙ sym second.count

one_node_by : {Meets : Demand} → AsksRight Meets → (input : List ℕ) (k j : ℕ) (first : IsNoNode Meets input k)
    (second : IsNoNode Meets input j) → Agree (node_end first) (node_end second) first.rest second.rest → k ≡ j
one_node_by asks input k j first second (Second_goes_on more is left) = one_node_from asks input k j first second more is
one_node_by asks input k j first second (First_goes_on more is left) = sym (one_node_from asks input j k second first more is)

pub one_node : {Meets : Demand} → AsksRight Meets → (input : List ℕ) (k j : ℕ) → IsNoNode Meets input k → IsNoNode Meets input j
    → k ≡ j
one_node asks input k j first second =
    one_node_by asks input k j first second
    (agree (node_end first) (node_end second) first.rest second.rest (AllLack-begun (node_end first) (node_begins first))
    (AllLack-begun (node_end second) (node_begins second))
    (sym first.parts ∙ second.parts))
