-- An input is read in one way alone, so at most one of the answers fits it. Two ways to cut the same bytes into lines
-- agree as far as both go, and the lines of a text tell its nodes.
use Rattle.std.proofs.Common.{◌≡◌, ℕ, ◌<◌, ◌≤◌, List, [], ◌∷◌, ◌++◌, length, map, refl, sym, ap, ◌∙◌, subst, arith, append_assoc}
use Rattle.std.proofs.Common.{length-append}
use Rattle.std.proofs.lemmas.List.{append-nil}
use Rattle.std.specs.Prelude.{flat_map}
use Rattle.hx_board.specs.declared.colours.Colour.{Colour}
use Rattle.hx_tree.specs.declared.nodes.Node.{Node}
use Rattle.hx_tree.specs.Rules.{IsRightNode}
use Rattle.hx_tree.specs.Trees.{IsRightNodeAt, headings_of}
use Rattle.hx_tree.proofs.TreeGrowth.{right_at-append}
use Rattle.hx_board.proofs.ListLaws.{get-push_last}
use Rattle.std.proofs.Math.Seq.{take-append_seam}
use Rattle.hx_lex.specs.Words.{IsNumber, spaced}
use Rattle.hx_text.specs.declared.versions.Preamble.{Preamble}
use Rattle.hx_text.specs.Grammars.{text_of, Begins, IsFaultyLine}
use Rattle.hx_text.specs.TreeTexts.{AreTreeLines, AreTreeLinesOf, front_lines, first_line, list_words}
use Rattle.hx_text.specs.TreeTexts.{node_lines, end_line, tree_lines}
use Rattle.hx_text.specs.Lengths.{most_nodes}
use Rattle.hx_cmd_check.specs.Judging.{Demand, EndedIn, IsNoText, IsNoNode}
use Rattle.hx_cmd_check.proofs.Demands.{AsksRight}
use Rattle.hx_cmd_check.proofs.ManyNodes.{ManyNodes}
use Rattle.hx_cmd_check.proofs.EndedNodes.{begins_of, all_front, ended_parts, long_lines}
use Rattle.hx_text.proofs.Alignment.{aligned}
use Rattle.hx_text.proofs.NodeInjective.{first_not_end}
use Rattle.hx_parse.proofs.Steps.{flat_map-push}
use Rattle.hx_parse.proofs.Completions.{whole_are_of}
use Rattle.hx_text.proofs.Cuts.{Agree, Second_goes_on, First_goes_on, agree, AllLack}
use Rattle.hx_text.proofs.ShortLines.{AllShort, AllShort-front, AllShort-tree_lines}
use Rattle.hx_text.proofs.TreeLacks.{AllLack-begun}

-- the nodes that ended in some lines are the first ones of each text that begins with these lines
pub record GoOn (nodes all : List Node) : Type 0 where
  pub more : List Node
  pub same : all ≡ nodes ++ more

-- the lines up to the last of a node that is not right
abbrev pub node_end : {Meets : Demand} {input : List ℕ} {k : ℕ} → IsNoNode Meets input k → List (List ℕ)
node_end node = node.lines ++ node.last ∷ []

pub node_begins : {Meets : Demand} {input : List ℕ} {k : ℕ} (node : IsNoNode Meets input k) → Begins AreTreeLines (node_end node)
node_begins node = begins_of (node_end node) (node.earlier ++ node.node ∷ []) node.ended

-- a node that is right where it stands among more nodes is right after those before it
pub right_among : (earlier : List Node) (node : Node) (all : List Node) → GoOn (earlier ++ node ∷ []) all
    → IsRightNodeAt all (length earlier) → IsRightNode (headings_of earlier) node
right_among earlier node all on right =
    let before : length earlier < length (earlier ++ node ∷ []) = omega (arith, length-append earlier (node ∷ [])) in
    let found : IsRightNodeAt (earlier ++ node ∷ []) (length earlier) =
    (right_at-append (earlier ++ node ∷ []) on.more (length earlier) before).0
    (subst (λ (ns : List Node). IsRightNodeAt ns (length earlier)) on.same right) in
    rw (get-push_last earlier node, take-append_seam earlier (node ∷ [])) at found

pub ended_first : (lines more : List (List ℕ)) (nodes all : List Node) (preamble : Preamble) (winner : Colour) → EndedIn lines nodes
    → AreTreeLinesOf preamble all winner (lines ++ more) → GoOn nodes all
ended_first lines more [] all preamble winner ended are = record { more = all; same = refl }
ended_first lines more (node ∷ nodes) all preamble winner ended are =
    let first : Preamble = ended.preamble in
    let front : List (List ℕ) = front_lines first ++ flat_map node_lines (node ∷ nodes) in
    let parts = ended_parts lines (node ∷ nodes) ended (long_lines lines (node ∷ nodes) ended (λ none. cc)) in
    let same : lines ++ more ≡ front ++ (parts.part ++ more) = ap (λ (ls : List (List ℕ)). ls ++ more) parts.same
    ∙ append_assoc front parts.part more in
    let on = aligned first (node ∷ nodes) front (parts.part ++ more) preamble all winner ended.text.is_size
    (all_front first (node ∷ nodes) ended.later ended.text.each) refl (subst (AreTreeLinesOf preamble all winner) same are) in
    record { more = on.on.more; same = on.on.nodes_are }

-- no more nodes ended than `check` accepts
pub few_ended : (lines : List (List ℕ)) (nodes : List Node) → EndedIn lines nodes → length nodes ≤ most_nodes
few_ended lines nodes ended = omega (arith, ended.few, length-append nodes ended.later)

-- the lines of too many nodes, up to the first line of the last
abbrev pub many_lines : {Meets : Demand} {input : List ℕ} → ManyNodes Meets input → List (List ℕ)
many_lines many = front_lines many.preamble ++ flat_map node_lines many.nodes ++ first_line many.next ∷ []

abbrev pub all_of : {Meets : Demand} {input : List ℕ} → ManyNodes Meets input → List Node
all_of many = many.nodes ++ many.next ∷ []

-- and the lines with which a text of theirs goes on
pub many_rest : {Meets : Demand} {input : List ℕ} → ManyNodes Meets input → List (List ℕ)
many_rest many = map spaced (list_words many.next.rule)
    ++ end_line (length (many.nodes ++ many.next ∷ [])) many.next.heading.winner ∷ []

many_are : {Meets : Demand} {input : List ℕ} (many : ManyNodes Meets input)
    → many_lines many ++ many_rest many ≡ tree_lines many.preamble (all_of many) many.next.heading.winner
unfolding many_rest
many_are many =
    let front : List (List ℕ) = front_lines many.preamble ++ flat_map node_lines many.nodes in
    let end : List (List ℕ) = end_line (length (all_of many)) many.next.heading.winner ∷ [] in
    ap (λ (ls : List (List ℕ)). ls ++ many_rest many)
    (sym (append_assoc (front_lines many.preamble) (flat_map node_lines many.nodes) (first_line many.next ∷ [])))
    ∙ append_assoc front (first_line many.next ∷ []) (many_rest many)
    ∙ sym (append_assoc front (node_lines many.next) end)
    ∙ ap (λ (ls : List (List ℕ)). ls ++ end)
    (append_assoc (front_lines many.preamble) (flat_map node_lines many.nodes) (node_lines many.next)
    ∙ ap (λ (ls : List (List ℕ)). front_lines many.preamble ++ ls) (sym (flat_map-push many.nodes many.next)))

many_whole : {Meets : Demand} {input : List ℕ} (many : ManyNodes Meets input)
    → AreTreeLinesOf many.preamble (all_of many) many.next.heading.winner (many_lines many ++ many_rest many)
many_whole many =
    subst (AreTreeLinesOf many.preamble (all_of many) many.next.heading.winner) (sym (many_are many))
    (whole_are_of many.preamble many.nodes many.next many.is_size many.each many.next_fits (omega (arith, many.full)))

pub many_begin : {Meets : Demand} {input : List ℕ} (many : ManyNodes Meets input) → Begins AreTreeLines (many_lines many)
many_begin many =
    (many_rest many, record { preamble = many.preamble; nodes = all_of many; winner = many.next.heading.winner; are = many_whole many })

pub AllLack-many_lines : {Meets : Demand} {input : List ℕ} (many : ManyNodes Meets input) → AllLack (many_lines many)
AllLack-many_lines many = AllLack-begun (many_lines many) (many_begin many)

pub AllShort-many_lines : {Meets : Demand} {input : List ℕ} (many : ManyNodes Meets input) → AllShort (many_lines many)
AllShort-many_lines many =
    let begins : Begins AreTreeLines (many_lines many) = many_begin many in
    AllShort-front (many_lines many) begins.0 (AllShort-tree_lines (many_lines many ++ begins.0) begins.1)

no_end_yet : {Meets : Demand} {input : List ℕ} (many : ManyNodes Meets input) (more : List Node) (rest : List (List ℕ))
    (count : ℕ) (winner : Colour)
    → IsNumber count
    → first_line many.next ∷ rest ≡ flat_map node_lines more ++ end_line count winner ∷ [] → 1 ≤ length more
no_end_yet many [] rest count winner small e =
    let first : first_line many.next ≡ end_line count winner = cc in
    absurd (first_not_end many.preamble many.next count winner many.is_size many.next_fits small first)
no_end_yet many (node ∷ more) rest count winner small e = omega arith

-- no text that begins so has as few nodes as a text may have
pub more_nodes : {Meets : Demand} {input : List ℕ} (many : ManyNodes Meets input) (preamble : Preamble) (all : List Node)
    (winner : Colour) (rest : List (List ℕ)) → AreTreeLinesOf preamble all winner (many_lines many ++ rest) → length all ≤ most_nodes → ⊥
more_nodes many preamble all winner rest are few =
    let front : List (List ℕ) = front_lines many.preamble ++ flat_map node_lines many.nodes in
    let head : List ℕ = first_line many.next in
    let same : many_lines many ++ rest ≡ front ++ (head ∷ rest) =
    ap (λ (ls : List (List ℕ)). ls ++ rest) (sym (append_assoc (front_lines many.preamble) (flat_map node_lines many.nodes) (head ∷ [])))
    ∙ append_assoc front (head ∷ []) rest in
    let on = aligned many.preamble many.nodes front (head ∷ rest) preamble all winner many.is_size many.each refl
    (subst (AreTreeLinesOf preamble all winner) same are) in
    let some : 1 ≤ length on.on.more = no_end_yet many on.on.more rest (length all) winner are.count on.on.rest_is in
    absurd (omega (arith, few, some, many.full, ap length on.on.nodes_are, length-append many.nodes on.on.more))

-- more nodes than `check` accepts
pub too_many : {Meets : Demand} {input : List ℕ} (many : ManyNodes Meets input) (lines more : List (List ℕ)) (nodes : List Node)
    → lines ≡ many_lines many ++ more → EndedIn lines nodes → ⊥
too_many many lines more nodes is ended =
    let all : List Node = nodes ++ ended.later in
    let same : lines ++ ended.rest ≡ many_lines many ++ (more ++ ended.rest) =
    ap (λ (ls : List (List ℕ)). ls ++ ended.rest) is ∙ append_assoc (many_lines many) more ended.rest in
    more_nodes many ended.preamble all ended.winner (more ++ ended.rest)
    (subst (AreTreeLinesOf ended.preamble all ended.winner) same ended.text) ended.few

-- the rest of the lines of too many nodes
pub goes_to_end : {Meets : Demand} {input : List ℕ} (many : ManyNodes Meets input) (lines more : List (List ℕ))
    → many_lines many ≡ lines ++ more
    → AreTreeLinesOf many.preamble (all_of many) many.next.heading.winner (lines ++ (more ++ many_rest many))
goes_to_end many lines more is =
    subst (AreTreeLinesOf many.preamble (all_of many) many.next.heading.winner)
    (ap (λ (ls : List (List ℕ)). ls ++ many_rest many) is ∙ append_assoc lines more (many_rest many))
    (many_whole many)

wrong_within : {Meets : Demand} {input : List ℕ} (many : ManyNodes Meets input) → AsksRight Meets → (earlier : List Node) (node : Node)
    → GoOn (earlier ++ node ∷ []) (all_of many) → length earlier < most_nodes → IsRightNode (headings_of earlier) node
wrong_within many asks earlier node on within =
    right_among earlier node (all_of many) on
    ((right_at-append many.nodes (many.next ∷ []) (length earlier) (omega (arith, many.full))).1
    (asks (front_lines many.preamble ++ flat_map node_lines many.nodes) many.nodes many.meets (length earlier)))

many_not_wrong_by : {Meets : Demand} {input : List ℕ} (many : ManyNodes Meets input) → AsksRight Meets → (k : ℕ)
    (is : IsNoNode Meets input k) → Agree (many_lines many) (node_end is) many.rest is.rest → ⊥
many_not_wrong_by many asks k is (Second_goes_on more same rest) =
    too_many many (node_end is) more (is.earlier ++ is.node ∷ []) same is.ended
many_not_wrong_by many asks k is (First_goes_on more same rest) =
    let nodes : List Node = is.earlier ++ is.node ∷ [] in
    is.wrong (wrong_within many asks is.earlier is.node
    (ended_first (node_end is) (more ++ many_rest many) nodes (all_of many) many.preamble many.next.heading.winner is.ended
    (goes_to_end many (node_end is) more same))
    (omega (arith, length-append is.earlier (is.node ∷ []), few_ended (node_end is) nodes is.ended)))

pub many_not_wrong : {Meets : Demand} → AsksRight Meets → (input : List ℕ) (k : ℕ) → ManyNodes Meets input
    → IsNoNode Meets input k → ⊥
many_not_wrong asks input k many is =
    many_not_wrong_by many asks k is
    (agree (many_lines many) (node_end is) many.rest is.rest (AllLack-many_lines many)
    (AllLack-begun (node_end is) (node_begins is)) (sym many.parts ∙ is.parts))

-- what comes after the lines before a fault begins no text
pub no_next : (input : List ℕ) (line : ℕ) (fault : IsFaultyLine AreTreeLines input line) (next : List ℕ) (more rest : List (List ℕ))
    (tail : List ℕ)
    → fault.rest ≡ text_of (next ∷ more) ++ tail → AreTreeLines (fault.before ++ (next ∷ rest)) → ⊥
unfolding text_of
no_next input line fault next more rest tail is are =
    fault.wrong next (text_of more ++ tail) (is ∙ append_assoc next (10 ∷ text_of more) tail)
    (rest, subst AreTreeLines (sym (append_assoc fault.before (next ∷ []) rest)) are)

many_not_fault_at : {Meets : Demand} {input : List ℕ} (many : ManyNodes Meets input) (line : ℕ) (is : IsNoText Meets input line)
    (more : List (List ℕ)) → many_lines many ≡ is.fault.before ++ more → is.fault.rest ≡ text_of more ++ many.rest → ⊥
many_not_fault_at many line is [] same rest =
    too_many many is.fault.before [] is.faultless.nodes (sym (append-nil is.fault.before) ∙ sym same ∙ sym (append-nil (many_lines many)))
    is.faultless.ended
many_not_fault_at {Meets} {input} many line is (next ∷ more) same rest =
    no_next input line is.fault next more (more ++ many_rest many) many.rest rest
    (record {
      preamble = many.preamble;
      nodes = all_of many;
      winner = many.next.heading.winner;
      are =
          goes_to_end many is.fault.before (next ∷ more) same;
    })

many_not_fault_by : {Meets : Demand} {input : List ℕ} (many : ManyNodes Meets input) (line : ℕ) (is : IsNoText Meets input line)
    → Agree (many_lines many) is.fault.before many.rest is.fault.rest → ⊥
many_not_fault_by many line is (Second_goes_on more same rest) =
    too_many many is.fault.before more is.faultless.nodes same is.faultless.ended
many_not_fault_by many line is (First_goes_on more same rest) = many_not_fault_at many line is more same rest

pub many_not_fault : {Meets : Demand} (input : List ℕ) (line : ℕ) → ManyNodes Meets input → IsNoText Meets input line → ⊥
many_not_fault input line many is =
    many_not_fault_by many line is
    (agree (many_lines many) is.fault.before many.rest is.fault.rest (AllLack-many_lines many)
    (AllLack-begun is.fault.before is.fault.right) (sym many.parts ∙ is.fault.parts))
