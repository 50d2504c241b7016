-- Lines in the parts that are put one after the other.
use Rattle.std.proofs.Common.{◌≡◌, ℕ, List, [], ◌∷◌, ◌++◌, refl, sym, ap, ◌∙◌, map, append_assoc}
use Rattle.std.specs.Prelude.{codes, flat_map}
use Rattle.std.specs.Fmt.{decimal}
use Rattle.std.proofs.lemmas.List.{append-nil}
use Rattle.std.proofs.lemmas.List.Folds.{flat_map-map}
use Rattle.std.proofs.lemmas.Grind.{flat_map-append}
use Rattle.hx_board.specs.declared.colours.Colour.{Colour}
use Rattle.hx_board.specs.declared.colours.Colour.TheVariants.{Black, White}
use Rattle.hx_board.specs.declared.vertices.Vertex.{Vertex}
use Rattle.hx_board.specs.Cells.{Extent}
use Rattle.hx_board.specs.Positions.{Board}
use Rattle.hx_inferior.specs.declared.fills.FillStep.{FillStep}
use Rattle.hx_inferior.specs.declared.fills.FillStep.TheVariants.{Other, Dead, Pair}
use Rattle.hx_inferior.specs.declared.dominations.Kill.TheVariants.{ByDead, ByPair}
use Rattle.hx_link.specs.declared.steps.Step.{Step}
use Rattle.hx_link.specs.declared.steps.Step.TheVariants.{Base, AndStone, AndCell, Or}
use Rattle.hx_tree.specs.declared.nodes.Line.{Line}
use Rattle.hx_tree.specs.declared.nodes.Line.TheVariants.{Child, Under}
use Rattle.hx_tree.specs.declared.nodes.Node.{Node}
use Rattle.hx_text.specs.declared.heads.Opening.{Opening}
use Rattle.hx_text.specs.declared.heads.Opening.TheVariants.{Chain, Links, Move, All, Fill, Turned}
use Rattle.hx_text.specs.declared.heads.Head.{Head}
use Rattle.hx_lex.specs.Words.{spaced, colour_word, mask_word, cell_word, vertex_word}
use Rattle.hx_text.specs.Grammars.{text_of}
use Rattle.hx_text.specs.PositionTexts.{size_line, stones_line, move_line, position_text}
use Rattle.hx_text.specs.StepTexts.{step_line, threat_line}
use Rattle.hx_text.specs.FillTexts.{fill_line}
use Rattle.hx_text.specs.Entries.{answer_line, entry_line, entries_for, entries_of}
use Rattle.hx_text.specs.declared.versions.Version.TheVariants.{One, Two}
use Rattle.hx_text.specs.declared.versions.Preamble.{Preamble}
use Rattle.hx_text.specs.TreeTexts.{opening_words, head_of, head_line, node_lines, title_line, front_lines, end_line}
use Rattle.hx_text.specs.Spelling.{each_line, parts_text}
use Rattle.hx_text.proofs.NodeParts.{node_lines-parts}

pub size_spelled : (old : List ℕ) (size : Extent)
    → ((((old ++ codes "size ") ++ decimal size.rows) ++ codes " ") ++ decimal size.cols) ++ codes "\n" ≡ old ++ (size_line size ++ 10 ∷ [])
unfolding spaced
size_spelled old size = simp append_assoc

pub stones_spelled : (old : List ℕ) (colour : Colour) (stones : ℕ)
    → (((old ++ colour_word colour) ++ codes " ") ++ mask_word stones) ++ codes "\n" ≡ old ++ (stones_line colour stones ++ 10 ∷ [])
unfolding spaced
stones_spelled old colour stones = simp append_assoc

pub move_spelled : (old : List ℕ) (mover : Colour)
    → ((old ++ codes "move ") ++ colour_word mover) ++ codes "\n" ≡ old ++ (move_line mover ++ 10 ∷ [])
unfolding spaced
move_spelled old mover = simp append_assoc

five_lines : (old a b c d e : List ℕ)
    → ((((old ++ (a ++ 10 ∷ [])) ++ (b ++ 10 ∷ [])) ++ (c ++ 10 ∷ [])) ++ (d ++ 10 ∷ [])) ++ (e ++ 10 ∷ []) ≡ old
    ++ text_of (a ∷ b ∷ c ∷ d ∷ e ∷ [])
unfolding text_of
five_lines old a b c d e = simp append_assoc

pub position_spelled : (old : List ℕ) (board : Board) (mover : Colour)
    → ((((old ++ codes "hexpos 1\n") ++ (size_line board.size ++ 10 ∷ [])) ++ (stones_line Black board.black ++ 10 ∷ [])) ++
    (stones_line White board.white ++ 10 ∷ [])) ++ (move_line mover ++ 10 ∷ []) ≡ old ++ position_text board mover
unfolding spaced
position_spelled old board mover =
    five_lines old (spaced (codes "hexpos" ∷ codes "1" ∷ [])) (size_line board.size) (stones_line Black board.black)
    (stones_line White board.white) (move_line mover)

pub heading_spelled : (old : List ℕ) (preamble : Preamble)
    → (old ++ (title_line preamble.version ++ 10 ∷ [])) ++ (size_line preamble.size ++ 10 ∷ []) ≡ old ++ text_of (front_lines preamble)
unfolding text_of
heading_spelled old preamble = simp append_assoc

-- the title of each version
pub title_1_spelled : (old : List ℕ) → old ++ codes "hextree 1\n" ≡ old ++ (title_line One ++ 10 ∷ [])
unfolding spaced
title_1_spelled old = refl

pub title_2_spelled : (old : List ℕ) → old ++ codes "hextree 2\n" ≡ old ++ (title_line Two ++ 10 ∷ [])
unfolding spaced
title_2_spelled old = refl

pub turned_spelled : (old : List ℕ) (child : ℕ) → (old ++ codes "turned ") ++ decimal child ≡ old ++ spaced (opening_words (Turned child))
unfolding spaced
turned_spelled old child = append_assoc old (codes "turned ") (decimal child)

pub chain_spelled : (old : List ℕ) → old ++ codes "chain" ≡ old ++ spaced (opening_words Chain)
unfolding spaced
chain_spelled old = refl

pub winning_spelled : (old : List ℕ) (cell child : ℕ)
    → (((old ++ codes "move ") ++ cell_word cell) ++ codes " ") ++ decimal child ≡ old ++ spaced (opening_words (Move cell child))
unfolding spaced
winning_spelled old cell child = simp append_assoc

pub links_spelled : (old : List ℕ) (steps : ℕ) → (old ++ codes "links ") ++ decimal steps ≡ old ++ spaced (opening_words (Links steps))
unfolding spaced
links_spelled old steps = append_assoc old (codes "links ") (decimal steps)

pub all_spelled : (old : List ℕ) (steps threats lines : ℕ)
    → (((((old ++ codes "all ") ++ decimal steps) ++ codes " ") ++ decimal threats) ++ codes " ") ++ decimal lines
    ≡ old ++ spaced (opening_words (All steps threats lines))
unfolding spaced
all_spelled old steps threats lines = simp append_assoc

pub fills_spelled : (old : List ℕ) (fills child : ℕ)
    → (((old ++ codes "fill ") ++ decimal fills) ++ codes " ") ++ decimal child ≡ old ++ spaced (opening_words (Fill fills child))
unfolding spaced
fills_spelled old fills child = simp append_assoc

pub base_spelled : (old : List ℕ) (a b : Vertex)
    → ((((old ++ codes "base ") ++ vertex_word a) ++ codes " ") ++ vertex_word b) ++ codes "\n" ≡ old ++ (step_line (Base a b) ++ 10 ∷ [])
unfolding spaced
base_spelled old a b = simp append_assoc

-- the line of an And rule, whose word goes with the space after it
pub and_spelled : (old word : List ℕ) (left right : ℕ)
    → ((((old ++ word) ++ decimal left) ++ codes " ") ++ decimal right) ++ codes "\n" ≡ old
    ++ (word ++ decimal left ++ 32 ∷ decimal right ++ 10 ∷ [])
and_spelled old word left right = simp append_assoc

pub stone_spelled : (left right : ℕ)
    → codes "stone " ++ decimal left ++ 32 ∷ decimal right ++ 10 ∷ [] ≡ step_line (AndStone left right) ++ 10 ∷ []
unfolding spaced
stone_spelled left right = simp append_assoc

pub cell_spelled : (left right : ℕ)
    → codes "cell " ++ decimal left ++ 32 ∷ decimal right ++ 10 ∷ [] ≡ step_line (AndCell left right) ++ 10 ∷ []
unfolding spaced
cell_spelled left right = simp append_assoc

-- words that follow a word, each with the space before it
spaced_after : (word : List ℕ) (words : List (List ℕ)) → spaced (word ∷ words) ≡ word ++ flat_map (λ (next : List ℕ). 32 ∷ next) words
unfolding spaced
spaced_after word [] = sym (append-nil word)
spaced_after word (next ∷ words) = ap (λ (rest : List ℕ). word ++ 32 ∷ rest) (spaced_after next words)

-- the line of an Or: its word, each of its parts with the space before it, and the end of the line
pub or_spelled : (parts : List ℕ) → step_line (Or parts) ++ 10 ∷ [] ≡ codes "or" ++ (parts_text parts ++ 10 ∷ [])
or_spelled parts =
    ap (λ (line : List ℕ). line ++ 10 ∷ [])
    (spaced_after (codes "or") (map decimal parts)
    ∙ ap (λ (rest : List ℕ). codes "or" ++ rest) (flat_map-map (λ (next : List ℕ). 32 ∷ next) decimal parts))

pub threat_spelled : (old : List ℕ) (place : ℕ)
    → ((old ++ codes "threat ") ++ decimal place) ++ codes "\n" ≡ old ++ (threat_line place ++ 10 ∷ [])
unfolding spaced
threat_spelled old place = simp append_assoc

pub child_spelled : (old : List ℕ) (cell child : ℕ)
    → ((((old ++ codes "line ") ++ cell_word cell) ++ codes " child ") ++ decimal child) ++ codes "\n"
    ≡ old ++ (answer_line (Child cell child) ++ 10 ∷ [])
unfolding spaced
child_spelled old cell child = simp append_assoc

pub under_dead_spelled : (cell better : ℕ)
    → codes "line " ++ cell_word cell ++ codes " dead " ++ cell_word better ++ 10 ∷ [] ≡ answer_line (Under cell better ByDead) ++ 10 ∷ []
unfolding spaced
under_dead_spelled cell better = simp append_assoc

-- the parts that a line is put in are those of the line, whatever they are
line_in_parts : (old a b c d e f g : List ℕ)
    → ((((((old ++ a) ++ b) ++ c) ++ d) ++ e) ++ f) ++ g ≡ old ++ ((a ++ (b ++ (c ++ (d ++ (e ++ f))))) ++ g)
line_in_parts old a b c d e f g = simp append_assoc

pub under_pair_spelled : (old : List ℕ) (cell better partner : ℕ)
    → ((((((old ++ codes "line ") ++ cell_word cell) ++ codes " pair ") ++ cell_word better) ++ codes " ") ++ cell_word partner)
    ++ codes "\n"
    ≡ old ++ (answer_line (Under cell better (ByPair partner)) ++ 10 ∷ [])
unfolding spaced
under_pair_spelled old cell better partner =
    line_in_parts old (codes "line ") (cell_word cell) (codes " pair ") (cell_word better) (32 ∷ []) (cell_word partner) (10 ∷ [])

-- the line of a fill step on one cell, whose word goes with the space after it
pub filled_spelled : (old word : List ℕ) (cell : ℕ) → ((old ++ word) ++ cell_word cell) ++ codes "\n" ≡ old
    ++ (word ++ cell_word cell ++ 10 ∷ [])
filled_spelled old word cell = simp append_assoc

pub other_spelled : (cell : ℕ) → codes "other " ++ cell_word cell ++ 10 ∷ [] ≡ fill_line (Other cell) ++ 10 ∷ []
unfolding spaced
other_spelled cell = simp append_assoc

pub dead_spelled : (cell : ℕ) → codes "dead " ++ cell_word cell ++ 10 ∷ [] ≡ fill_line (Dead cell) ++ 10 ∷ []
unfolding spaced
dead_spelled cell = simp append_assoc

-- a line with two cells, whose other words go with the spaces before and after the cells
pub two_cells_spelled : (old before between : List ℕ) (a b : ℕ)
    → ((((old ++ before) ++ cell_word a) ++ between) ++ cell_word b) ++ codes "\n" ≡ old
    ++ (before ++ cell_word a ++ between ++ cell_word b ++ 10 ∷ [])
two_cells_spelled old before between a b = simp append_assoc

pub pair_spelled : (a b : ℕ) → codes "pair " ++ cell_word a ++ codes " " ++ cell_word b ++ 10 ∷ [] ≡ fill_line (Pair a b) ++ 10 ∷ []
unfolding spaced
pair_spelled a b = simp append_assoc

pub end_spelled : (old : List ℕ) (count : ℕ) (winner : Colour)
    → ((((old ++ codes "end ") ++ decimal count) ++ codes " ") ++ colour_word winner) ++ codes "\n" ≡ old
    ++ text_of (end_line count winner ∷ [])
unfolding spaced text_of
end_spelled old count winner = simp append_assoc

lines_end : (lines : List (List ℕ)) → text_of lines ≡ each_line (λ (line : List ℕ). line) lines
unfolding text_of
lines_end [] = refl
lines_end (line ∷ lines) =
    ap (λ (rest : List ℕ). line ++ 10 ∷ rest) (lines_end lines)
    ∙ sym (append_assoc line (10 ∷ []) (each_line (λ (next : List ℕ). next) lines))

-- the lines of the steps, then those of the threats, then those of the answers
pub entries_spelled : (steps : List Step) (threats : List ℕ) (lines : List Line)
    → text_of (map entry_line (entries_for steps threats lines []))
    ≡ each_line step_line steps ++ (each_line threat_line threats ++ each_line answer_line lines)
entries_spelled steps threats lines = simp (lines_end, flat_map-map, flat_map-append, append_assoc, append-nil)

pub step_lines_spelled : (steps : List Step) → text_of (map entry_line (entries_for steps [] [] [])) ≡ each_line step_line steps
step_lines_spelled steps = simp (lines_end, flat_map-map, flat_map-append, append-nil)

pub fill_lines_spelled : (fills : List FillStep) → text_of (map entry_line (entries_for [] [] [] fills)) ≡ each_line fill_line fills
fill_lines_spelled fills = simp (lines_end, flat_map-map)

-- the parts that a node's first line is put in are those of the line, whatever stands for the space
in_parts : (old word black white mover winner opening gap end : List ℕ)
    → ((((old ++ word) ++ ((black ++ (gap ++ white)) ++ gap)) ++ ((mover ++ (gap ++ winner)) ++ gap)) ++ opening) ++ end
    ≡ old ++ ((word ++ (black ++ (gap ++ (white ++ (gap ++ (mover ++ (gap ++ (winner ++ (gap ++ opening))))))))) ++ end)
in_parts old word black white mover winner opening gap end = simp append_assoc

-- a line of five words and those of an opening
line_spelled : (old black white mover winner : List ℕ) (opening : Opening)
    → ((((old ++ codes "node ") ++ (black ++ 32 ∷ white ++ 32 ∷ [])) ++ (mover ++ 32 ∷ winner ++ 32 ∷ []))
    ++ spaced (opening_words opening)) ++ codes "\n"
    ≡ old ++ (spaced (codes "node" ∷ black ∷ white ∷ mover ∷ winner ∷ opening_words opening) ++ 10 ∷ [])
unfolding spaced
line_spelled old black white mover winner Chain =
    in_parts old (codes "node ") black white mover winner (spaced (opening_words Chain)) (32 ∷ []) (10 ∷ [])
line_spelled old black white mover winner (Links steps) =
    in_parts old (codes "node ") black white mover winner (spaced (opening_words (Links steps))) (32 ∷ []) (10 ∷ [])
line_spelled old black white mover winner (Move cell child) =
    in_parts old (codes "node ") black white mover winner (spaced (opening_words (Move cell child))) (32 ∷ []) (10 ∷ [])
line_spelled old black white mover winner (All steps threats lines) =
    in_parts old (codes "node ") black white mover winner (spaced (opening_words (All steps threats lines))) (32 ∷ []) (10 ∷ [])
line_spelled old black white mover winner (Fill fills child) =
    in_parts old (codes "node ") black white mover winner (spaced (opening_words (Fill fills child))) (32 ∷ []) (10 ∷ [])
line_spelled old black white mover winner (Turned child) =
    in_parts old (codes "node ") black white mover winner (spaced (opening_words (Turned child))) (32 ∷ []) (10 ∷ [])

pub head_spelled : (old : List ℕ) (head : Head)
    → ((((old ++ codes "node ")
    ++ (mask_word head.heading.position.black ++ 32 ∷ mask_word head.heading.position.white ++ 32 ∷ []))
    ++ (colour_word head.heading.to_move ++ 32 ∷ colour_word head.heading.winner ++ 32 ∷ []))
    ++ spaced (opening_words head.opening)) ++ codes "\n" ≡ old ++ (head_line head ++ 10 ∷ [])
head_spelled old head =
    line_spelled old (mask_word head.heading.position.black) (mask_word head.heading.position.white) (colour_word head.heading.to_move)
    (colour_word head.heading.winner) head.opening

-- the first line of a node is put into an empty text, and the lines of its entries follow
pub node_spelled : (empty text : List ℕ) (node : Node) → empty ≡ [] → text ≡ empty ++ (head_line (head_of node) ++ 10 ∷ [])
    → text ++ text_of (map entry_line (entries_of node.rule)) ≡ text_of (node_lines node)
unfolding text_of
node_spelled empty text node none is =
    let lines = text_of (map entry_line (entries_of node.rule)) in
    ap (λ (t : List ℕ). t ++ lines) (is ∙ ap (λ (t : List ℕ). t ++ (head_line (head_of node) ++ 10 ∷ [])) none)
    ∙ append_assoc (head_line (head_of node)) (10 ∷ []) lines ∙ ap text_of (sym (node_lines-parts node))
