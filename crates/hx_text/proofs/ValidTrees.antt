-- The nodes of a valid tree on boards of one size, of no more nodes than `check` accepts, are within the limits of a
-- text: each cell is on the board, a child is an earlier node, what a step or a threat names is an earlier link, as
-- each cell to answer has one line there are at most 121 lines, and as each fill step fills an empty cell there are at
-- most 121 fill steps.
use Rattle.std.proofs.Common.{◌≡◌, refl, ℕ, zero, suc, ◌+◌, ◌<◌, ◌≤◌, List, [], ◌∷◌, ◌++◌, length, map, take, get_or, subst, arith, Option}
use Rattle.std.proofs.Common.{Some, None, inl, inr, length-append}
use Rattle.std.specs.Prelude.{slice_get, IfSome, IsSomeAnd}
use Rattle.std.specs.List.{All as EachItem}
use Rattle.std.proofs.lemmas.List.{length-map}
use Rattle.std.proofs.lemmas.List.Elements.{All-nil, All-cons}
use Rattle.std.proofs.lemmas.Option.{slice_get_within}
use Rattle.std.proofs.lemmas.Map.Keys.{sorted_from_strictly_increasing}
use Rattle.std.proofs.lemmas.Map.Views.{length-le_from_below}
use Rattle.hx_board.specs.declared.colours.Colour.{Colour}
use Rattle.hx_board.specs.declared.vertices.Vertex.{Vertex}
use Rattle.hx_board.specs.Cells.{Extent, IsExtent, OnBoard}
use Rattle.hx_board.specs.Graph.{IsVertex}
use Rattle.hx_board.specs.Colours.{other_of}
use Rattle.hx_board.specs.Positions.{Board, IsBoard, IsEmpty, put}
use Rattle.hx_board.proofs.CellLaws.{on_board-small}
use Rattle.hx_board.proofs.StoneLaws.{empty-put}
use Rattle.hx_board.proofs.ListLaws.{holds-inside}
use Rattle.hx_inferior.specs.declared.dominations.Kill.{Kill}
use Rattle.hx_inferior.specs.declared.dominations.Kill.TheVariants.{ByDead, ByPair}
use Rattle.hx_inferior.specs.Inferior.{IsKilled}
use Rattle.hx_inferior.proofs.PairLaws.{pair-b_empty}
use Rattle.hx_link.specs.declared.links.Link.{Link}
use Rattle.hx_link.specs.declared.steps.Step.{Step}
use Rattle.hx_link.specs.declared.steps.Step.TheVariants.{Base, AndStone, AndCell, Or}
use Rattle.hx_link.specs.Steps.{IsLink, HasEnds, StepGives, AreRightSteps}
use Rattle.hx_link.specs.Named.{links_at}
use Rattle.hx_link.proofs.LinkLaws.{end-vertex, steps-length}
use Rattle.hx_tree.specs.declared.nodes.Heading.{Heading}
use Rattle.hx_tree.specs.declared.nodes.Line.{Line}
use Rattle.hx_tree.specs.declared.nodes.Line.TheVariants.{Child, Under}
use Rattle.hx_tree.specs.declared.nodes.Node.{Node}
use Rattle.hx_tree.specs.declared.nodes.Rule.{Rule}
use Rattle.hx_tree.specs.declared.nodes.Rule.TheVariants.{Chain, Links, Move, All, Fill, Turned}
use Rattle.hx_tree.specs.Steps.{IsThreat}
use Rattle.hx_tree.specs.Answers.{AreInOrder, IsToAnswer, cell_of, cells_of, IsRightLine}
use Rattle.hx_tree.specs.Rules.{IsRightRule, IsRightNode}
use Rattle.hx_tree.specs.Trees.{headings_of, AreRight}
use Rattle.hx_board.specs.declared.cells.TheConstants.{CELLS}
use Rattle.hx_tree.specs.declared.steps.TheConstants.{MOST_STEPS}
use Rattle.hx_text.specs.declared.versions.Version.TheVariants.{Two}
use Rattle.hx_text.specs.declared.versions.Preamble.{Preamble}
use Rattle.hx_lex.specs.Words.{IsNumber}
use Rattle.hx_text.specs.StepTexts.{StepFits}
use Rattle.hx_text.specs.Entries.{ReasonFits, AnswerFits, EachEntryFits, entries_of, opening_of}
use Rattle.hx_text.specs.Versions.{IsTurnedNode, HasTurned}
use Rattle.hx_text.specs.TreeTexts.{OpeningFits, RuleFits, NodeFits, ListsFit}
use Rattle.hx_text.specs.Lengths.{most_nodes}
use Rattle.hx_text.proofs.EntryLists.{step_entry, threat_entry, answer_entry, EachEntryFits-entries_for}
use Rattle.hx_text.proofs.NodeParts.{node_fits as fits_by_parts}
use Rattle.hx_text.proofs.FillCounts.{few_fill_steps, fill_steps_fit}

-- each cell of a list in order has its place below 121, so there are at most 121
few_cells : (size : Extent) (cells : List ℕ) (Fact : ℕ → Type 0) → IsExtent size.rows size.cols
    → ((cell : ℕ) → Fact cell → OnBoard size cell)
    → AreInOrder Fact cells → length cells ≤ CELLS
few_cells size cells Fact extent on order =
    length-le_from_below 121 cells (sorted_from_strictly_increasing cells order.in_order)
    (λ k d less. on_board-small size (get_or cells k d) extent (on (get_or cells k d) (order.only k d less)))

-- the better cell of a dominated move and the other cell of a pair are empty, so they are on the board
kill_fits : (board : Board) (mover : Colour) (cell better : ℕ) (kill : Kill) → IsEmpty board better
    → IsKilled (put board mover better) mover cell kill
    → ReasonFits board.size (Under cell better kill)
kill_fits board mover cell better ByDead empty killed = empty.on_board
kill_fits board mover cell better (ByPair partner) empty killed =
    let free : IsEmpty board partner =
    ((empty-put board mover better partner).0 (pair-b_empty (put board mover better) mover cell partner killed)).0 in
    (empty.on_board, free.on_board)

line_fits : (size : Extent) (before : List Heading) (heading : Heading) (links : List Link) (threats : List ℕ) (all : List Line)
    (line : Line)
    → heading.position.size ≡ size → length before ≤ most_nodes → OnBoard size (cell_of line)
    → IsRightLine before heading links threats all line
    → AnswerFits size line
line_fits size before heading links threats all (Child cell child) same few on right =
    let below : child < length before = slice_get_within before child _ right in (on, omega arith)
line_fits size before heading links threats all (Under cell better kill) same few on right =
    let fits = kill_fits heading.position (other_of heading.winner) cell better kill right.0.better_empty right.0.killed in
    (on, subst (λ (s : Extent). ReasonFits s (Under cell better kill)) same fits)

lines_fit : (size : Extent) (before : List Heading) (heading : Heading) (links : List Link) (threats : List ℕ) (all lines : List Line)
    → heading.position.size ≡ size → length before ≤ most_nodes → EachItem (OnBoard size) (cells_of lines)
    → ((k : ℕ) → IfSome (slice_get lines k) (IsRightLine before heading links threats all)) → EachEntryFits size (map answer_entry lines)
lines_fit size before heading links threats all [] same few on right = tt
lines_fit size before heading links threats all (line ∷ lines) same few on right = (
  line_fits size before heading links threats all line same few (on 0 0 (omega arith)) (right 0),
  lines_fit size before heading links threats all lines same few (λ k d less. on (suc k) d (omega arith)) (λ k. right (suc k)),
)

-- ---- steps

base_fits : (board : Board) (player : Colour) (a b : Vertex) (link : Link) → IsLink board player link → HasEnds link a b
    → IsVertex board.size a × IsVertex board.size b
base_fits board player a b link ok (inl ends) =
    (rw ends.0 at (end-vertex board player link.a ok.a_end), rw ends.1 at (end-vertex board player link.b ok.b_end))
base_fits board player a b link ok (inr ends) =
    (rw ends.1 at (end-vertex board player link.b ok.b_end), rw ends.0 at (end-vertex board player link.a ok.a_end))

parts_fit : (before : List Link) (places : List ℕ) (links : List Link) → length before ≤ MOST_STEPS
    → links_at before places ≡ map (λ (part : Link). Some part) links → EachItem IsNumber places
parts_fit before [] links few there = All-nil IsNumber
parts_fit before (place ∷ places) [] few there = cc
parts_fit before (place ∷ places) (link ∷ links) few there =
    let here : slice_get before place ≡ Some link = cc in
    let later : links_at before places ≡ map (λ (part : Link). Some part) links = cc in
    let below : place < length before = slice_get_within before place link here in
    All-cons IsNumber place places (omega arith) (parts_fit before places links few later)

step_fits : (board : Board) (player : Colour) (before : List Link) (step : Step) (link : Link) → length before ≤ MOST_STEPS
    → StepGives board player before step link → StepFits board.size step
step_fits board player before (Base a b) link few gives = base_fits board player a b link gives.link_ok gives.rule.ends
step_fits board player before (AndStone left right) link few gives =
    let first : left < length before = slice_get_within before left gives.rule.over.first gives.rule.over.first_there in
    let second : right < length before = slice_get_within before right gives.rule.over.second gives.rule.over.second_there in
    (omega arith, omega arith)
step_fits board player before (AndCell left right) link few gives =
    let first : left < length before = slice_get_within before left gives.rule.over.first gives.rule.over.first_there in
    let second : right < length before = slice_get_within before right gives.rule.over.second gives.rule.over.second_there in
    (omega arith, omega arith)
step_fits board player before (Or parts) link few gives = (gives.rule.few, parts_fit before parts gives.rule.links few gives.rule.there)

steps_fit : (board : Board) (player : Colour) (before : List Link) (steps : List Step) (links : List Link)
    → length before + length steps ≤ MOST_STEPS
    → AreRightSteps board player before steps links → EachEntryFits board.size (map step_entry steps)
steps_fit board player before [] links few right = tt
steps_fit board player before (step ∷ steps) links few right = (
  step_fits board player before step right.0 (omega arith) right.1,
  steps_fit board player (before ++ right.0 ∷ []) steps links (omega (arith, length-append before (right.0 ∷ []))) right.2,
)

-- ---- threats

threats_fit : (size : Extent) (links : List Link) (threats : List ℕ) → length links ≤ MOST_STEPS
    → ((k : ℕ) → IfSome (slice_get threats k) (IsThreat links))
    → EachEntryFits size (map threat_entry threats)
threats_fit size links [] few each = tt
threats_fit size links (place ∷ threats) few each =
    let below : place < length links = holds-inside _ links place (each 0) in
    (omega arith, threats_fit size links threats few (λ k. each (suc k)))

-- ---- rules

-- the empty cells of a position of this size are on its board
on_this : (size : Extent) (heading : Heading) → heading.position.size ≡ size → (cell : ℕ) → IsEmpty heading.position cell
    → OnBoard size cell
on_this size heading same cell empty = rw same at empty.on_board

opening_fits : (preamble : Preamble) (before : List Heading) (heading : Heading) (rule : Rule) → heading.position.size ≡ preamble.size
    → IsBoard heading.position
    → length before ≤ most_nodes → ((child : ℕ) → rule ≡ Turned child → preamble.version ≡ Two) → IsRightRule before heading rule
    → OpeningFits preamble (opening_of rule)
opening_fits preamble before heading Chain same is few two right = tt
opening_fits preamble before heading (Links steps) same is few two right = right.steps_right.few
opening_fits preamble before heading (Move cell child) same is few two right =
    let below : child < length before = slice_get_within before child _ right.leads in
    (on_this preamble.size heading same cell right.empty, omega arith)
opening_fits preamble before heading (All steps threats lines) same is few two right =
    let extent : IsExtent preamble.size.rows preamble.size.cols = rw same at is.0 in
    let count = few_cells preamble.size (cells_of lines) (IsToAnswer heading.position right.links threats) extent
    (λ cell is. on_this preamble.size heading same cell is.empty)
    right.cells in
    (right.steps_right.few, right.threats_right.few, omega (arith, count, length-map lines cell_of))
opening_fits preamble before heading (Fill fills child) same is few two right =
    let below : child < length before = slice_get_within before child _ right.leads in
    (few_fill_steps heading.position heading.winner fills is right.right, omega arith)
opening_fits preamble before heading (Turned child) same is few two right =
    let below : child < length before = holds-inside _ before child right in (two child refl, omega arith)

rule_fits : (size : Extent) (before : List Heading) (heading : Heading) (rule : Rule) → heading.position.size ≡ size
    → length before ≤ most_nodes → IsRightRule before heading rule → EachEntryFits size (entries_of rule)
rule_fits size before heading Chain same few right = tt
rule_fits size before heading (Links steps) same few right =
    let each : EachEntryFits heading.position.size (map step_entry steps) =
    steps_fit heading.position heading.winner [] steps right.links (omega (arith, right.steps_right.few)) right.steps_right.right in
    EachEntryFits-entries_for size steps [] [] [] (rw same at each) tt tt tt
rule_fits size before heading (Move cell child) same few right = tt
rule_fits size before heading (All steps threats lines) same few right =
    let each : EachEntryFits heading.position.size (map step_entry steps) =
    steps_fit heading.position heading.winner [] steps right.links (omega (arith, right.steps_right.few)) right.steps_right.right in
    let count : length right.links ≡ length steps =
    omega (arith, steps-length heading.position heading.winner [] steps right.links right.steps_right.right) in
    EachEntryFits-entries_for size steps threats lines [] (rw same at each)
    (threats_fit size right.links threats (omega (arith, count, right.steps_right.few)) right.threats_right.each)
    (lines_fit size before heading right.links threats lines lines same few
    (λ k d less. on_this size heading same (get_or (cells_of lines) k d)
    (right.cells.only k d less).empty) right.lines_right) tt
rule_fits size before heading (Fill fills child) same few right =
    EachEntryFits-entries_for size [] [] [] fills tt tt tt (fill_steps_fit size heading.position heading.winner fills same right.right)
rule_fits size before heading (Turned child) same few right = tt

node_fits : (preamble : Preamble) (before : List Heading) (node : Option Node) → length before ≤ most_nodes
    → IfSome node (IsRightNode before)
    → IfSome node (λ n. n.heading.position.size ≡ preamble.size)
    → (IsSomeAnd node IsTurnedNode → preamble.version ≡ Two) → IfSome node (NodeFits preamble)
node_fits preamble before None few right same two = tt
node_fits preamble before (Some node) few right same two =
    fits_by_parts node
    (record {
      heading = record { size_is = same; board = right.board };
      opening = opening_fits preamble before node.heading node.rule same right.board few (λ child is. two (child, is)) right.rule;
    })
    (rule_fits preamble.size before node.heading node.rule same few right.rule)

each_from_places : (preamble : Preamble) (nodes : List Node) → ((k : ℕ) → IfSome (slice_get nodes k) (NodeFits preamble))
    → EachItem (NodeFits preamble) nodes
each_from_places preamble [] fits = All-nil (NodeFits preamble)
each_from_places preamble (node ∷ nodes) fits =
    All-cons (NodeFits preamble) node nodes (fits 0) (each_from_places preamble nodes (λ k. fits (suc k)))

few_before : (nodes : List Node) (k : ℕ) → length nodes ≤ most_nodes → length (headings_of (take k nodes)) ≤ most_nodes
few_before [] zero few = omega arith
few_before [] (suc k) few = omega arith
few_before (node ∷ nodes) zero few = omega arith
few_before (node ∷ nodes) (suc k) few = omega (arith, few, length_before nodes k)
  where
    length_before : (nodes : List Node) (k : ℕ) → length (headings_of (take k nodes)) ≤ length nodes
    length_before [] zero = omega arith
    length_before [] (suc k) = omega arith
    length_before (node ∷ nodes) zero = omega arith
    length_before (node ∷ nodes) (suc k) = omega (arith, length_before nodes k)

-- what holds of each node holds of the node at a place, if there is one
at_places : (P : Node → Type 0) (nodes : List Node) → EachItem P nodes → (k : ℕ) → IfSome (slice_get nodes k) P
at_places P [] each k = tt
at_places P (node ∷ nodes) each zero = each 0 node (omega arith)
at_places P (node ∷ nodes) each (suc k) = at_places P nodes (λ j d less. each (suc j) d (omega arith)) k

-- turned nodes fit in a text of the second version alone
pub right_nodes_fit : (preamble : Preamble) (nodes : List Node) → AreRight nodes → length nodes ≤ most_nodes
    → EachItem (λ node. node.heading.position.size ≡ preamble.size) nodes → (HasTurned nodes → preamble.version ≡ Two)
    → EachItem (NodeFits preamble) nodes
right_nodes_fit preamble nodes right few same two =
    each_from_places preamble nodes
    (λ k. node_fits preamble (headings_of (take k nodes)) (slice_get nodes k) (few_before nodes k few) (right k)
    (at_places (λ node. node.heading.position.size ≡ preamble.size) nodes same k) (λ turned. two (k, turned)))

-- what fits can be written
lists_fit : (preamble : Preamble) (rule : Rule) → RuleFits preamble rule → ListsFit rule
lists_fit preamble Chain fits = tt
lists_fit preamble (Links steps) fits = fits.0
lists_fit preamble (Move cell child) fits = tt
lists_fit preamble (All steps threats lines) fits = (fits.0, fits.1, fits.2)
lists_fit preamble (Fill fills child) fits = fits.0
lists_fit preamble (Turned child) fits = tt

pub each_lists_fit : (preamble : Preamble) (nodes : List Node) → EachItem (NodeFits preamble) nodes
    → EachItem (λ node. ListsFit node.rule) nodes
each_lists_fit preamble nodes each k d less =
    lists_fit preamble (get_or nodes k d).rule (each k d less).rule
