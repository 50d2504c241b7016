-- Different nodes have different lines. A first line is that of one head alone, and is no last line. Of two nodes with
-- which the same lines begin the first lines are the same, hence the numbers of the steps, threats, answers and fill
-- steps that follow, and hence these.
use Rattle.std.proofs.Common.{◌≡◌, ℕ, ◌≤◌, List, [], ◌∷◌, ◌++◌, length, map, refl, sym, ap, ◌∙◌, subst, arith}
use Rattle.std.proofs.lemmas.List.{append-nil}
use Rattle.std.specs.Fmt.{decimal}
use Rattle.hx_board.specs.declared.colours.Colour.{Colour}
use Rattle.hx_board.specs.Cells.{Extent, IsExtent}
use Rattle.hx_board.specs.Positions.{Board}
use Rattle.hx_board.proofs.PositionLaws.{same_board}
use Rattle.hx_inferior.specs.declared.fills.FillStep.{FillStep}
use Rattle.hx_link.specs.declared.steps.Step.{Step}
use Rattle.hx_tree.specs.declared.nodes.Heading.{Heading}
use Rattle.hx_tree.specs.declared.nodes.Line.{Line}
use Rattle.hx_tree.specs.declared.nodes.Rule.{Rule}
use Rattle.hx_tree.specs.declared.nodes.Rule.TheVariants.{Chain, Links, Move, All, Fill, Turned}
use Rattle.hx_tree.specs.declared.nodes.Node.{Node}
use Rattle.hx_tree.specs.Headings.{heading_of}
use Rattle.hx_text.specs.declared.heads.Opening.{Opening}
use Rattle.hx_text.specs.declared.heads.Opening.TheVariants.{Chain as Chain_opening, Links as Links_opening, Move as Move_opening}
use Rattle.hx_text.specs.declared.heads.Opening.TheVariants.{All as All_opening, Fill as Fill_opening, Turned as Turned_opening}
use Rattle.hx_text.specs.declared.heads.Head.{Head}
use Rattle.hx_text.specs.declared.entries.Entry.{Entry}
use Rattle.hx_text.specs.declared.versions.Preamble.{Preamble}
use Rattle.hx_lex.specs.Words.{mask_word, colour_word, cell_word, IsNumber}
use Rattle.hx_text.specs.StepTexts.{step_line, threat_line, StepFits}
use Rattle.hx_text.specs.FillTexts.{fill_line, FillFits}
use Rattle.hx_text.specs.Entries.{answer_line, AnswerFits, entry_line, EntryFits, EachEntryFits, entries_for, entries_of, opening_of}
use Rattle.hx_text.specs.TreeTexts.{opening_words, OpeningFits, head_of, head_words, head_line, HeadFits, first_line, node_lines, NodeFits}
use Rattle.hx_text.specs.TreeTexts.{end_line}
use Rattle.hx_lex.proofs.Spacing.{spaced_injective}
use Rattle.hx_lex.proofs.Masks.{mask_injective}
use Rattle.hx_text.proofs.LineWords.{end_words, words_in-end_line}
use Rattle.hx_text.proofs.StepWords.{first_letter}
use Rattle.hx_text.proofs.HeadLines.{IsLine-head_words, words_in-head_line, black_small, white_small}
use Rattle.hx_lex.proofs.Injective.{number_injective, colour_injective, cell_injective}
use Rattle.hx_text.proofs.EntryLists.{step_entry, threat_entry, answer_entry, fill_entry, entries_for-parts}
use Rattle.hx_text.proofs.NodeParts.{node_lines-parts, first_line-head, head_fits, entries_fit}
use Rattle.hx_text.proofs.EntryInjective.{step_injective, threat_injective, answer_injective, fill_injective}

-- ---- first lines

opening_injective : (preamble : Preamble) (a b : Opening) → preamble.size.rows ≤ 11 → OpeningFits preamble a → OpeningFits preamble b
    → opening_words a ≡ opening_words b → a ≡ b
opening_injective preamble Chain_opening Chain_opening few fits_a fits_b e = refl
opening_injective preamble (Links_opening a) (Links_opening b) few fits_a fits_b e =
    let numbers : decimal a ≡ decimal b = cc in
    ap (λ (steps : ℕ). Links_opening steps) (number_injective a b (omega (arith, fits_a)) (omega (arith, fits_b)) numbers)
opening_injective preamble (Move_opening a k) (Move_opening b j) few fits_a fits_b e =
    let cells : cell_word a ≡ cell_word b = cc in
    let numbers : decimal k ≡ decimal j = cc in
    let same_cell : a ≡ b = cell_injective preamble.size a b few fits_a.0 fits_b.0 cells in
    let same_child : k ≡ j = number_injective k j fits_a.1 fits_b.1 numbers in
    cc
opening_injective preamble (All_opening s t l) (All_opening p q r) few fits_a fits_b e =
    let steps : decimal s ≡ decimal p = cc in
    let threats : decimal t ≡ decimal q = cc in
    let lines : decimal l ≡ decimal r = cc in
    let same_steps : s ≡ p = number_injective s p (omega (arith, fits_a.0)) (omega (arith, fits_b.0)) steps in
    let same_threats : t ≡ q = number_injective t q (omega (arith, fits_a.1)) (omega (arith, fits_b.1)) threats in
    let same_lines : l ≡ r = number_injective l r (omega (arith, fits_a.2)) (omega (arith, fits_b.2)) lines in
    cc
opening_injective preamble (Fill_opening f k) (Fill_opening g j) few fits_a fits_b e =
    let fills : decimal f ≡ decimal g = cc in
    let numbers : decimal k ≡ decimal j = cc in
    let same_fills : f ≡ g = number_injective f g (omega (arith, fits_a.0)) (omega (arith, fits_b.0)) fills in
    let same_child : k ≡ j = number_injective k j fits_a.1 fits_b.1 numbers in
    cc
opening_injective preamble (Turned_opening k) (Turned_opening j) few fits_a fits_b e =
    let numbers : decimal k ≡ decimal j = cc in
    ap (λ (child : ℕ). Turned_opening child) (number_injective k j fits_a.1 fits_b.1 numbers)
opening_injective preamble a b few fits_a fits_b e =
    let letters : first_letter (opening_words a) ≡ first_letter (opening_words b) = ap first_letter e in
    absurd (omega (arith, letters))

heading_same : (a b : Heading) → a.position ≡ b.position → a.to_move ≡ b.to_move → a.winner ≡ b.winner → a ≡ b
heading_same a b p t w = ap (λ (x : Board). heading_of x a.to_move a.winner) p
    ∙ ap (λ (x : Colour). heading_of b.position x a.winner) t ∙ ap (λ (x : Colour). heading_of b.position b.to_move x) w

abbrev head_with : Heading → Opening → Head
head_with heading opening = record { heading = heading; opening = opening }

head_same : (a b : Head) → a.heading ≡ b.heading → a.opening ≡ b.opening → a ≡ b
head_same a b h o = ap (λ (x : Heading). head_with x a.opening) h ∙ ap (λ (x : Opening). head_with b.heading x) o

pub head_injective : (preamble : Preamble) (a b : Head) → IsExtent preamble.size.rows preamble.size.cols → HeadFits preamble a
    → HeadFits preamble b
    → head_line a ≡ head_line b → a ≡ b
head_injective preamble a b extent fits_a fits_b e =
    let words : head_words a ≡ head_words b =
    spaced_injective (head_words a) (head_words b) (IsLine-head_words preamble a extent.1 fits_a.opening)
    (IsLine-head_words preamble b extent.1 fits_b.opening) e in
    let blacks : mask_word a.heading.position.black ≡ mask_word b.heading.position.black = cc in
    let whites : mask_word a.heading.position.white ≡ mask_word b.heading.position.white = cc in
    let movers : colour_word a.heading.to_move ≡ colour_word b.heading.to_move = cc in
    let winners : colour_word a.heading.winner ≡ colour_word b.heading.winner = cc in
    let openings : opening_words a.opening ≡ opening_words b.opening = cc in
    let sizes : a.heading.position.size ≡ b.heading.position.size = fits_a.heading.size_is ∙ sym fits_b.heading.size_is in
    let board = same_board a.heading.position b.heading.position sizes
    (mask_injective a.heading.position.black b.heading.position.black (black_small a.heading fits_a.heading)
    (black_small b.heading fits_b.heading) blacks)
    (mask_injective a.heading.position.white b.heading.position.white (white_small a.heading fits_a.heading)
    (white_small b.heading fits_b.heading) whites) in
    head_same a b
    (heading_same a.heading b.heading board (colour_injective a.heading.to_move b.heading.to_move movers)
    (colour_injective a.heading.winner b.heading.winner winners))
    (opening_injective preamble a.opening b.opening extent.1 fits_a.opening fits_b.opening openings)

pub head_not_end : (preamble : Preamble) (head : Head) (count : ℕ) (winner : Colour) → IsExtent preamble.size.rows preamble.size.cols
    → HeadFits preamble head
    → IsNumber count → head_line head ≡ end_line count winner → ⊥
head_not_end preamble head count winner extent fits small e =
    let words : head_words head ≡ end_words count winner =
    sym (words_in-head_line preamble (head_line head) head extent fits refl)
    ∙ words_in-end_line (head_line head) count winner small e in
    cc

pub first_not_end : (preamble : Preamble) (node : Node) (count : ℕ) (winner : Colour) → IsExtent preamble.size.rows preamble.size.cols
    → NodeFits preamble node → IsNumber count → first_line node ≡ end_line count winner → ⊥
first_not_end preamble node count winner extent fits small e =
    head_not_end preamble (head_of node) count winner extent (head_fits node fits) small (sym (first_line-head node) ∙ e)

-- ---- a rule is told by its opening and its entries' lines

-- a front of entries that are made of as many values, of which each is told by its line
front_cancel : {X : Type 0} (size : Extent) (entry_for : X → Entry) (a b : List X) (after_a after_b : List Entry) (xs ys : List (List ℕ))
    → ((x y : X) → EntryFits size (entry_for x) → EntryFits size (entry_for y) → entry_line (entry_for x) ≡ entry_line (entry_for y)
    → x ≡ y)
    → EachEntryFits size (map entry_for a ++ after_a) → EachEntryFits size (map entry_for b ++ after_b) → length a ≡ length b
    → map entry_line (map entry_for a ++ after_a) ++ xs ≡ map entry_line (map entry_for b ++ after_b) ++ ys
    → (a ≡ b) × EachEntryFits size after_a × EachEntryFits size after_b × (map entry_line after_a ++ xs ≡ map entry_line after_b ++ ys)
front_cancel size entry_for [] [] after_a after_b xs ys told fits_a fits_b same e = (refl, fits_a, fits_b, e)
front_cancel size entry_for [] (b ∷ later) after_a after_b xs ys told fits_a fits_b same e = absurd (omega arith)
front_cancel size entry_for (a ∷ more) [] after_a after_b xs ys told fits_a fits_b same e = absurd (omega arith)
front_cancel {X} size entry_for (a ∷ more) (b ∷ later) after_a after_b xs ys told fits_a fits_b same e =
    let firsts : entry_line (entry_for a) ≡ entry_line (entry_for b) = cc in
    let tails : map entry_line (map entry_for more ++ after_a) ++ xs ≡ map entry_line (map entry_for later ++ after_b) ++ ys = cc in
    let rest = front_cancel size entry_for more later after_a after_b xs ys told fits_a.1 fits_b.1 (omega arith) tails in
    let first : a ≡ b = told a b fits_a.0 fits_b.0 firsts in
    (ap (λ (h : X). h ∷ more) first ∙ ap (λ (t : List X). b ∷ t) rest.0, rest.1, rest.2, rest.3)

fills_cancel : (size : Extent) (a b : List FillStep) (xs ys : List (List ℕ)) → IsExtent size.rows size.cols
    → EachEntryFits size (map fill_entry a) → EachEntryFits size (map fill_entry b) → length a ≡ length b
    → map entry_line (map fill_entry a) ++ xs ≡ map entry_line (map fill_entry b) ++ ys → (a ≡ b) × (xs ≡ ys)
fills_cancel size a b xs ys extent fits_a fits_b same e =
    let all_a : map fill_entry a ≡ map fill_entry a ++ [] = sym (append-nil (map fill_entry a)) in
    let all_b : map fill_entry b ≡ map fill_entry b ++ [] = sym (append-nil (map fill_entry b)) in
    let whole = front_cancel size fill_entry a b [] [] xs ys
    (λ (x y : FillStep) (fits_x : FillFits size x) (fits_y : FillFits size y) (l : fill_line x ≡ fill_line y).
    fill_injective size x y extent fits_x fits_y l)
    (subst (EachEntryFits size) all_a fits_a) (subst (EachEntryFits size) all_b fits_b) same
    (ap (λ (es : List Entry). map entry_line es ++ xs) (sym all_a) ∙ e ∙ ap (λ (es : List Entry). map entry_line es ++ ys) all_b) in
    (whole.0, whole.3)

-- the four lists of two rules
record SameLists (steps_a steps_b : List Step) (threats_a threats_b : List ℕ) (lines_a lines_b : List Line)
    (fills_a fills_b : List FillStep)
    (xs ys : List (List ℕ)) : Type 0 where
  steps : steps_a ≡ steps_b
  threats : threats_a ≡ threats_b
  lines : lines_a ≡ lines_b
  fills : fills_a ≡ fills_b
  rest : xs ≡ ys

lists_cancel : (size : Extent) (steps_a steps_b : List Step) (threats_a threats_b : List ℕ) (lines_a lines_b : List Line)
    (fills_a fills_b : List FillStep) (xs ys : List (List ℕ)) → IsExtent size.rows size.cols
    → EachEntryFits size (entries_for steps_a threats_a lines_a fills_a)
    → EachEntryFits size (entries_for steps_b threats_b lines_b fills_b)
    → length steps_a ≡ length steps_b → length threats_a ≡ length threats_b → length lines_a ≡ length lines_b
    → length fills_a ≡ length fills_b
    → map entry_line (entries_for steps_a threats_a lines_a fills_a) ++ xs ≡ map entry_line (entries_for steps_b threats_b lines_b fills_b)
    ++ ys
    → SameLists steps_a steps_b threats_a threats_b lines_a lines_b fills_a fills_b xs ys
lists_cancel size steps_a steps_b threats_a threats_b lines_a lines_b fills_a fills_b xs ys extent fits_a fits_b many_steps many_threats
    many_lines many_fills e =
    let parts_a = entries_for-parts steps_a threats_a lines_a fills_a in
    let parts_b = entries_for-parts steps_b threats_b lines_b fills_b in
    let after_threats_a : List Entry = map answer_entry lines_a ++ map fill_entry fills_a in
    let after_threats_b : List Entry = map answer_entry lines_b ++ map fill_entry fills_b in
    let steps = front_cancel size step_entry steps_a steps_b (map threat_entry threats_a ++ after_threats_a)
    (map threat_entry threats_b ++ after_threats_b) xs ys
    (λ (x y : Step) (fits_x : StepFits size x) (fits_y : StepFits size y) (l : step_line x ≡ step_line y).
    step_injective size x y extent fits_x fits_y l)
    (subst (EachEntryFits size) parts_a fits_a) (subst (EachEntryFits size) parts_b fits_b) many_steps
    (ap (λ (es : List Entry). map entry_line es ++ xs) (sym parts_a) ∙ e ∙ ap (λ (es : List Entry). map entry_line es ++ ys) parts_b) in
    let threats = front_cancel size threat_entry threats_a threats_b after_threats_a after_threats_b xs ys
    (λ (x y : ℕ) (fits_x : IsNumber x) (fits_y : IsNumber y) (l : threat_line x ≡ threat_line y). threat_injective x y fits_x fits_y l)
    steps.1 steps.2 many_threats steps.3 in
    let lines = front_cancel size answer_entry lines_a lines_b (map fill_entry fills_a) (map fill_entry fills_b) xs ys
    (λ (x y : Line) (fits_x : AnswerFits size x) (fits_y : AnswerFits size y) (l : answer_line x ≡ answer_line y).
    answer_injective size x y extent fits_x fits_y l)
    threats.1 threats.2 many_lines threats.3 in
    let fills = fills_cancel size fills_a fills_b xs ys extent lines.1 lines.2 many_fills lines.3 in
    record { steps = steps.0; threats = threats.0; lines = lines.0; fills = fills.0; rest = fills.1 }

pub rule_cancel : (size : Extent) (a b : Rule) (xs ys : List (List ℕ)) → IsExtent size.rows size.cols → EachEntryFits size (entries_of a)
    → EachEntryFits size (entries_of b) → opening_of a ≡ opening_of b
    → map entry_line (entries_of a) ++ xs ≡ map entry_line (entries_of b) ++ ys → (a ≡ b) × (xs ≡ ys)
rule_cancel size Chain Chain xs ys extent fits_a fits_b o e = (refl, e)
rule_cancel size (Links a) (Links b) xs ys extent fits_a fits_b o e =
    let same : length a ≡ length b = cc in
    let rest = lists_cancel size a b [] [] [] [] [] [] xs ys extent fits_a fits_b same refl refl refl e in
    (ap (λ (steps : List Step). Links steps) rest.steps, rest.rest)
rule_cancel size (Move a k) (Move b j) xs ys extent fits_a fits_b o e =
    let cells : a ≡ b = cc in
    let children : k ≡ j = cc in
    (cc, e)
rule_cancel size (All s t l) (All p q r) xs ys extent fits_a fits_b o e =
    let steps : length s ≡ length p = cc in
    let threats : length t ≡ length q = cc in
    let lines : length l ≡ length r = cc in
    let rest = lists_cancel size s p t q l r [] [] xs ys extent fits_a fits_b steps threats lines refl e in
    let same_steps : s ≡ p = rest.steps in
    let same_threats : t ≡ q = rest.threats in
    let same_lines : l ≡ r = rest.lines in
    (cc, rest.rest)
rule_cancel size (Fill f k) (Fill g j) xs ys extent fits_a fits_b o e =
    let fills : length f ≡ length g = cc in
    let children : k ≡ j = cc in
    let rest = lists_cancel size [] [] [] [] [] [] f g xs ys extent fits_a fits_b refl refl refl fills e in
    let same_fills : f ≡ g = rest.fills in
    (cc, rest.rest)
rule_cancel size (Turned k) (Turned j) xs ys extent fits_a fits_b o e =
    let children : k ≡ j = cc in
    (cc, e)
rule_cancel size a b xs ys extent fits_a fits_b o e = cc

-- ---- nodes

abbrev node_of : Heading → Rule → Node
node_of heading rule = record { heading = heading; rule = rule }

node_same : (a b : Node) → a.heading ≡ b.heading → a.rule ≡ b.rule → a ≡ b
node_same a b h r = ap (λ (x : Heading). node_of x a.rule) h ∙ ap (λ (x : Rule). node_of b.heading x) r

pub node_cancel : (preamble : Preamble) (a b : Node) (xs ys : List (List ℕ)) → IsExtent preamble.size.rows preamble.size.cols
    → NodeFits preamble a
    → NodeFits preamble b → node_lines a ++ xs ≡ node_lines b ++ ys → (a ≡ b) × (xs ≡ ys)
node_cancel preamble a b xs ys extent fits_a fits_b e =
    let parts : (head_line (head_of a) ∷ map entry_line (entries_of a.rule)) ++ xs
    ≡ (head_line (head_of b) ∷ map entry_line (entries_of b.rule)) ++ ys =
    ap (λ (ls : List (List ℕ)). ls ++ xs) (sym (node_lines-parts a)) ∙ e ∙ ap (λ (ls : List (List ℕ)). ls ++ ys) (node_lines-parts b) in
    let firsts : head_line (head_of a) ≡ head_line (head_of b) = cc in
    let tails : map entry_line (entries_of a.rule) ++ xs ≡ map entry_line (entries_of b.rule) ++ ys = cc in
    let heads : head_of a ≡ head_of b =
    head_injective preamble (head_of a) (head_of b) extent (head_fits a fits_a) (head_fits b fits_b) firsts in
    let rules = rule_cancel preamble.size a.rule b.rule xs ys extent (entries_fit a fits_a) (entries_fit b fits_b)
    (ap (λ (h : Head). h.opening) heads) tails in
    (node_same a b (ap (λ (h : Head). h.heading) heads) rules.0, rules.1)
