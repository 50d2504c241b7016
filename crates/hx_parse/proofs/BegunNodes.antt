-- A node that lacks some of its entries is the front of a whole node: of the one that has the base of the first side
-- with itself, the threat 0, the answer by the child 0 at the cell a1, or the opponent's stone at a1 in place of each
-- entry that it lacks. So the lines so far are those of whole nodes, and a front of one node's lines. They are no whole
-- text, since no front of a node's lines is a list of whole nodes' lines and a last line.
use Rattle.std.proofs.Common.{◌≡◌, ◌≢◌, ℕ, zero, suc, ◌-◌, ◌<◌, ◌≤◌, List, [], ◌∷◌, ◌++◌, length, map, refl}
use Rattle.std.proofs.Common.{sym, ap, ◌∙◌, subst, arith, replicate, append_assoc, length-append, ⊎_elim}
use Rattle.std.proofs.lemmas.Bool.{cases_lt}
use Rattle.std.proofs.lemmas.List.{append-nil, map-append, length-map, length-replicate}
use Rattle.std.specs.Prelude.{flat_map, All}
use Rattle.std.proofs.lemmas.List.Elements.{All-head}
use Rattle.hx_board.specs.declared.colours.Colour.{Colour}
use Rattle.hx_board.specs.declared.vertices.Vertex.TheVariants.{First}
use Rattle.hx_board.specs.Cells.{Extent, IsExtent}
use Rattle.hx_inferior.specs.declared.fills.FillStep.{FillStep}
use Rattle.hx_inferior.specs.declared.fills.FillStep.TheVariants.{Other}
use Rattle.hx_link.specs.declared.steps.Step.{Step}
use Rattle.hx_link.specs.declared.steps.Step.TheVariants.{Base}
use Rattle.hx_tree.specs.declared.nodes.Line.{Line}
use Rattle.hx_tree.specs.declared.nodes.Line.TheVariants.{Child}
use Rattle.hx_tree.specs.declared.nodes.Node.{Node}
use Rattle.hx_text.specs.declared.entries.Entry.{Entry}
use Rattle.hx_parse.specs.declared.begun_nodes.Begun.{Begun}
use Rattle.hx_text.specs.declared.heads.Head.{Head}
use Rattle.hx_text.specs.declared.heads.Opening.{Opening}
use Rattle.hx_text.specs.declared.versions.Preamble.{Preamble}
use Rattle.hx_lex.specs.Words.{IsNumber}
use Rattle.hx_text.specs.Entries.{entry_line, EachEntryFits, entries_for, entries_of}
use Rattle.hx_text.specs.Entries.{steps_told, threats_told, answers_told, fills_told}
use Rattle.hx_parse.specs.EntryReads.{rule_for}
use Rattle.hx_text.specs.TreeTexts.{AreTreeLines, AreTreeLinesOf, NodeFits, HeadFits}
use Rattle.hx_text.specs.TreeTexts.{head_of, head_line, first_line, node_lines, front_lines, end_line}
use Rattle.hx_parse.specs.Places.{entries_in, IsInOrder, StandsInside}
use Rattle.hx_text.proofs.EntryLists.{step_entry, threat_entry, answer_entry, fill_entry, EachEntryFits-append}
use Rattle.hx_text.proofs.EntryLists.{EachEntryFits-entries_for, length-entries_for}
use Rattle.hx_parse.proofs.EntryKinds.{nil_of_length, entries_same, steps_more, threats_more, answers_more}
use Rattle.hx_parse.proofs.EntryKinds.{fills_more, opening_of-rule_for, entries_of-rule_for}
use Rattle.hx_text.proofs.NodeInjective.{first_not_end, node_cancel}
use Rattle.hx_text.proofs.Alignment.{aligned}
use Rattle.hx_parse.proofs.BegunSteps.{no_threats_yet, no_answers_before_steps, no_fills_before_steps}
use Rattle.hx_parse.proofs.BegunSteps.{no_answers_before_threats, no_fills_before_threats, no_fills_before_answers}
use Rattle.hx_text.proofs.NodeParts.{node_lines-parts, node_fits}

-- the lines are those of these nodes, and then some lines of one node, and not all of them
pub record EndsInNode (preamble : Preamble) (nodes : List Node) (lines : List (List ℕ)) : Type 0 where
  pub node : Node
  pub fits : NodeFits preamble node
  pub part : List (List ℕ)
  pub rest : List (List ℕ)
  pub begun : part ≢ []
  pub lacks : rest ≢ []
  pub parts : node_lines node ≡ part ++ rest
  pub same : lines ≡ (front_lines preamble ++ flat_map node_lines nodes) ++ part

-- what stands in for an entry that is missing
any_step : Step
any_step = Base First First

any_answer : Line
any_answer = Child 0 0

any_fill : FillStep
any_fill = Other 0

-- so many of each
record StandIns : Type 0 where
  steps : List Step
  threats : List ℕ
  lines : List Line
  fills : List FillStep

stand_ins : Begun → StandIns
stand_ins begun = record {
  steps = replicate (steps_told begun.head.opening - length begun.steps.items) any_step;
  threats = replicate (threats_told begun.head.opening - length begun.threats.items) 0;
  lines = replicate (answers_told begun.head.opening - length begun.lines.items) any_answer;
  fills = replicate (fills_told begun.head.opening - length begun.fills.items) any_fill;
}

steps_fit : (size : Extent) (n : ℕ) → EachEntryFits size (map step_entry (replicate n any_step))
unfolding any_step
steps_fit size zero = tt
steps_fit size (suc n) = ((tt, tt), steps_fit size n)

threats_fit : (size : Extent) (n : ℕ) → EachEntryFits size (map threat_entry (replicate n 0))
threats_fit size zero = tt
threats_fit size (suc n) = (omega arith, threats_fit size n)

answers_fit : (size : Extent) (n : ℕ) → IsExtent size.rows size.cols → EachEntryFits size (map answer_entry (replicate n any_answer))
unfolding any_answer
answers_fit size zero extent = tt
answers_fit size (suc n) extent =
    ((record { row = omega (arith, extent); col = omega (arith, extent) }, omega arith), answers_fit size n extent)

fills_fit : (size : Extent) (n : ℕ) → IsExtent size.rows size.cols → EachEntryFits size (map fill_entry (replicate n any_fill))
unfolding any_fill
fills_fit size zero extent = tt
fills_fit size (suc n) extent = (record { row = omega (arith, extent); col = omega (arith, extent) }, fills_fit size n extent)

-- the entries that are missing, where so many of each kind came
rest_of : Begun → List Entry
rest_of begun = entries_for (stand_ins begun).steps (stand_ins begun).threats (stand_ins begun).lines (stand_ins begun).fills

rest_fits : (begun : Begun) (size : Extent) → IsExtent size.rows size.cols → EachEntryFits size (rest_of begun)
unfolding rest_of stand_ins
rest_fits begun size extent =
    EachEntryFits-entries_for size (stand_ins begun).steps (stand_ins begun).threats (stand_ins begun).lines (stand_ins begun).fills
    (steps_fit size (steps_told begun.head.opening - length begun.steps.items))
    (threats_fit size (threats_told begun.head.opening - length begun.threats.items))
    (answers_fit size (answers_told begun.head.opening - length begun.lines.items) extent)
    (fills_fit size (fills_told begun.head.opening - length begun.fills.items) extent)

rest_missing : (begun : Begun) → IsInOrder begun → length (rest_of begun) ≡ begun.missing
unfolding rest_of stand_ins
rest_missing begun order =
    omega (
      arith,
      length-entries_for (stand_ins begun).steps (stand_ins begun).threats (stand_ins begun).lines (stand_ins begun).fills,
      length-replicate (steps_told begun.head.opening - length begun.steps.items) any_step,
      length-replicate {A = ℕ} (threats_told begun.head.opening - length begun.threats.items) 0,
      length-replicate (answers_told begun.head.opening - length begun.lines.items) any_answer,
      length-replicate (fills_told begun.head.opening - length begun.fills.items) any_fill,
      order.missing,
      order.steps,
      order.threats,
      order.answers,
      order.fills,
    )

abbrev all_steps : Begun → List Step
all_steps begun = begun.steps.items ++ (stand_ins begun).steps

abbrev all_threats : Begun → List ℕ
all_threats begun = begun.threats.items ++ (stand_ins begun).threats

abbrev all_lines : Begun → List Line
all_lines begun = begun.lines.items ++ (stand_ins begun).lines

abbrev all_fills : Begun → List FillStep
all_fills begun = begun.fills.items ++ (stand_ins begun).fills

-- a list after one that is empty, and before one that is
after_none : {X : Type 0} {front : List X} (back : List X) → front ≡ [] → front ++ back ≡ back
after_none {X} {front} back none = ap (λ (xs : List X). xs ++ back) none

before_none : {X : Type 0} (front : List X) {back : List X} → back ≡ [] → front ++ back ≡ front
before_none {X} front {back} none = ap (λ (xs : List X). front ++ xs) none ∙ append-nil front

appends_same : {front front' back back' : List Entry} → front ≡ front' → back ≡ back' → front ++ back ≡ front' ++ back'
appends_same {front} {front'} {back} {back'} e f = ap (λ (xs : List Entry). xs ++ back) e ∙ ap (λ (xs : List Entry). front' ++ xs) f

-- the entries that came, and then those that are missing
module _ (begun : Begun) (order : IsInOrder begun) where
  abbrev told_steps : ℕ
  told_steps = steps_told begun.head.opening

  abbrev told_threats : ℕ
  told_threats = threats_told begun.head.opening

  abbrev told_answers : ℕ
  told_answers = answers_told begun.head.opening

  abbrev AreWhole : Type 0
  AreWhole = entries_for (all_steps begun) (all_threats begun) (all_lines begun) (all_fills begun) ≡ entries_in begun ++ rest_of begun

  no_more_steps : told_steps ≤ length begun.steps.items → (stand_ins begun).steps ≡ []
  unfolding stand_ins
  no_more_steps past =
      nil_of_length (stand_ins begun).steps (omega (arith, length-replicate (told_steps - length begun.steps.items) any_step, past))

  no_more_threats : told_threats ≤ length begun.threats.items → (stand_ins begun).threats ≡ []
  unfolding stand_ins
  no_more_threats past =
      nil_of_length (stand_ins begun).threats (omega (arith, length-replicate {A = ℕ} (told_threats - length begun.threats.items) 0, past))

  no_more_answers : told_answers ≤ length begun.lines.items → (stand_ins begun).lines ≡ []
  unfolding stand_ins
  no_more_answers past =
      nil_of_length (stand_ins begun).lines (omega (arith, length-replicate (told_answers - length begun.lines.items) any_answer, past))

  lacks_steps : length begun.steps.items < told_steps → AreWhole
  unfolding rest_of
  lacks_steps less =
      let no_threats = no_threats_yet begun order less in
      let no_lines = no_answers_before_steps begun order less in
      let no_fills = no_fills_before_steps begun order less in
      let rest = stand_ins begun in
      entries_same refl (after_none rest.threats no_threats) (after_none rest.lines no_lines) (after_none rest.fills no_fills)
      ∙ steps_more begun.steps.items rest.steps rest.threats rest.lines rest.fills
      ∙ appends_same (entries_same refl (sym no_threats) (sym no_lines) (sym no_fills)) refl

  lacks_threats : told_steps ≤ length begun.steps.items → length begun.threats.items < told_threats → AreWhole
  unfolding rest_of
  lacks_threats past less =
      let no_steps = no_more_steps past in
      let no_lines = no_answers_before_threats begun order less in
      let no_fills = no_fills_before_threats begun order less in
      let rest = stand_ins begun in
      entries_same (before_none begun.steps.items no_steps) refl (after_none rest.lines no_lines) (after_none rest.fills no_fills)
      ∙ threats_more begun.steps.items begun.threats.items rest.threats rest.lines rest.fills
      ∙ appends_same (entries_same refl refl (sym no_lines) (sym no_fills)) (entries_same (sym no_steps) refl refl refl)

  lacks_answers : told_steps ≤ length begun.steps.items → told_threats ≤ length begun.threats.items
      → length begun.lines.items < told_answers → AreWhole
  unfolding rest_of
  lacks_answers past later less =
      let no_steps = no_more_steps past in
      let no_threats = no_more_threats later in
      let no_fills = no_fills_before_answers begun order less in
      let rest = stand_ins begun in
      entries_same (before_none begun.steps.items no_steps) (before_none begun.threats.items no_threats) refl
      (after_none rest.fills no_fills)
      ∙ answers_more begun.steps.items begun.threats.items begun.lines.items rest.lines rest.fills
      ∙ appends_same (entries_same refl refl refl (sym no_fills)) (entries_same (sym no_steps) (sym no_threats) refl refl)

  lacks_fills : told_steps ≤ length begun.steps.items → told_threats ≤ length begun.threats.items → told_answers ≤ length begun.lines.items
      → AreWhole
  unfolding rest_of
  lacks_fills past later last =
      let no_steps = no_more_steps past in
      let no_threats = no_more_threats later in
      let no_lines = no_more_answers last in
      let rest = stand_ins begun in
      entries_same (before_none begun.steps.items no_steps) (before_none begun.threats.items no_threats)
      (before_none begun.lines.items no_lines) refl
      ∙ fills_more begun.steps.items begun.threats.items begun.lines.items begun.fills.items rest.fills
      ∙ appends_same refl (entries_same (sym no_steps) (sym no_threats) (sym no_lines) refl)

  whole_entries : AreWhole
  whole_entries =
      ⊎_elim lacks_steps (λ past. ⊎_elim (lacks_threats past)
      (λ later. ⊎_elim (lacks_answers past later) (lacks_fills past later) (cases_lt (length begun.lines.items) told_answers))
      (cases_lt (length begun.threats.items) told_threats))
      (cases_lt (length begun.steps.items) told_steps)

-- a head and a rule for it whose lists are as long as it tells
module _ (preamble : Preamble) (head : Head) (steps : List Step) (threats : List ℕ) (lines : List Line) (fills : List FillStep)
    (fits : HeadFits preamble head)
    (s : length steps ≡ steps_told head.opening) (t : length threats ≡ threats_told head.opening)
    (l : length lines ≡ answers_told head.opening)
    (f : length fills ≡ fills_told head.opening) where
  node_for : Node
  node_for = record { heading = head.heading; rule = rule_for head.opening steps threats lines fills }

  head_of-node_for : head_of node_for ≡ head
  unfolding node_for
  head_of-node_for =
      ap (λ (o : Opening). let h : Head = record { heading = head.heading; opening = o } in h)
      (opening_of-rule_for head.opening steps threats lines fills s t l f)

  entries_of-node_for : entries_of node_for.rule ≡ entries_for steps threats lines fills
  unfolding node_for
  entries_of-node_for = entries_of-rule_for head.opening steps threats lines fills s t l f

  node_for-fits : EachEntryFits preamble.size (entries_for steps threats lines fills) → NodeFits preamble node_for
  node_for-fits each = node_fits node_for (rw head_of-node_for fits) (rw entries_of-node_for each)

  node_lines-node_for : node_lines node_for ≡ head_line head ∷ map entry_line (entries_for steps threats lines fills)
  node_lines-node_for =
      node_lines-parts node_for ∙ ap (λ (h : Head). head_line h ∷ map entry_line (entries_of node_for.rule)) head_of-node_for
      ∙ ap (λ (es : List Entry). head_line head ∷ map entry_line es) entries_of-node_for

-- a list with so many items behind it that it is as long as it was told to be
filled_up : {X : Type 0} (items : List X) (told : ℕ) (item : X) → length items ≤ told
    → length (items ++ replicate (told - length items) item) ≡ told
filled_up items told item few =
    omega (arith, length-append items (replicate (told - length items) item), length-replicate (told - length items) item)

pub inside_begins_node : (begun : Begun) (nodes : List Node) (lines : List (List ℕ)) → StandsInside begun nodes lines
    → EndsInNode begun.so_far.preamble nodes lines
unfolding stand_ins
inside_begins_node begun nodes lines inside =
    let stands = inside.begun_so in
    let order = stands.in_order in
    let preamble : Preamble = begun.so_far.preamble in
    let s : length (all_steps begun) ≡ steps_told begun.head.opening = filled_up begun.steps.items _ any_step order.steps in
    let t : length (all_threats begun) ≡ threats_told begun.head.opening = filled_up begun.threats.items _ 0 order.threats in
    let l : length (all_lines begun) ≡ answers_told begun.head.opening = filled_up begun.lines.items _ any_answer order.answers in
    let f : length (all_fills begun) ≡ fills_told begun.head.opening = filled_up begun.fills.items _ any_fill order.fills in
    let each : EachEntryFits preamble.size (entries_for (all_steps begun) (all_threats begun) (all_lines begun) (all_fills begun)) =
    subst (EachEntryFits preamble.size) (sym (whole_entries begun order))
    (EachEntryFits-append preamble.size (entries_in begun) (rest_of begun) stands.each
    (rest_fits begun preamble.size stands.stands.is_size)) in
    record {
      node = node_for preamble begun.head (all_steps begun) (all_threats begun) (all_lines begun) (all_fills begun) stands.head s t l f;
      fits = node_for-fits preamble begun.head (all_steps begun) (all_threats begun) (all_lines begun)
          (all_fills begun) stands.head s t l f each;
      part = head_line begun.head ∷ map entry_line (entries_in begun);
      rest = map entry_line (rest_of begun);
      begun = λ none. cc;
      lacks = λ none. absurd (omega (arith, ap length none, length-map (rest_of begun) entry_line, rest_missing begun order, inside.lacks));
      parts = node_lines-node_for preamble begun.head (all_steps begun) (all_threats begun) (all_lines begun)
          (all_fills begun) stands.head s t l f
          ∙ ap (λ (es : List Entry). head_line begun.head ∷ map entry_line es) (whole_entries begun order)
          ∙ ap (λ (ls : List (List ℕ)). head_line begun.head ∷ ls) (map-append entry_line (entries_in begun) (rest_of begun));
      same = stands.same ∙ ap (λ (ls : List (List ℕ)). ls ++ head_line begun.head ∷ map entry_line (entries_in begun)) stands.stands.same;
    }

-- no front of a node's lines is that of whole nodes and a last line
front_not_whole : (preamble : Preamble) (node : Node) (more : List Node) (count : ℕ) (winner : Colour) (part rest : List (List ℕ))
    → IsExtent preamble.size.rows preamble.size.cols → NodeFits preamble node → All (NodeFits preamble) more
    → IsNumber count → node_lines node ≡ part ++ rest
    → part ≡ flat_map node_lines more ++ end_line count winner ∷ [] → ⊥
front_not_whole preamble node [] count winner part rest extent fits each small parts whole =
    let same : node_lines node ≡ (end_line count winner ∷ []) ++ rest = parts ∙ ap (λ (ls : List (List ℕ)). ls ++ rest) whole in
    let first : first_line node ≡ end_line count winner = cc in
    first_not_end preamble node count winner extent fits small first
front_not_whole preamble node (next ∷ more) count winner part rest extent fits each small parts whole =
    let later : List (List ℕ) = flat_map node_lines more ++ end_line count winner ∷ [] in
    let same : node_lines node ++ [] ≡ node_lines next ++ (later ++ rest) =
    append-nil (node_lines node) ∙ parts ∙ ap (λ (ls : List (List ℕ)). ls ++ rest) whole
    ∙ ap (λ (ls : List (List ℕ)). ls ++ rest) (append_assoc (node_lines next) (flat_map node_lines more) (end_line count winner ∷ []))
    ∙ append_assoc (node_lines next) later rest in
    let none : [] ≡ later ++ rest =
    (node_cancel preamble node next [] (later ++ rest) extent fits (All-head (NodeFits preamble) next more each) same).1 in
    absurd (omega (arith, ap length none, length-append later rest, length-append (flat_map node_lines more) (end_line count winner ∷ [])))

-- the text is not whole inside a node
pub in_node_not_whole : (preamble : Preamble) (nodes : List Node) (lines : List (List ℕ)) → IsExtent preamble.size.rows preamble.size.cols
    → All (NodeFits preamble) nodes → EndsInNode preamble nodes lines → AreTreeLines lines → ⊥
in_node_not_whole preamble nodes lines extent each ends are =
    let front : List (List ℕ) = front_lines preamble ++ flat_map node_lines nodes in
    let on = aligned preamble nodes front ends.part are.preamble are.nodes are.winner extent each refl
    (subst (AreTreeLinesOf are.preamble are.nodes are.winner) ends.same are.are) in
    front_not_whole preamble ends.node on.on.more
    (length are.nodes) are.winner ends.part ends.rest extent ends.fits on.on.fits are.are.count
    ends.parts on.on.rest_is

-- each first line that fits is that of some node that fits
pub node_of_head : (preamble : Preamble) (head : Head) → IsExtent preamble.size.rows preamble.size.cols → HeadFits preamble head
    → (node : Node) × NodeFits preamble node × (head_of node ≡ head)
node_of_head preamble head extent fits =
    let steps : List Step = replicate (steps_told head.opening) any_step in
    let threats : List ℕ = replicate (threats_told head.opening) 0 in
    let lines : List Line = replicate (answers_told head.opening) any_answer in
    let fills : List FillStep = replicate (fills_told head.opening) any_fill in
    let s : length steps ≡ steps_told head.opening = length-replicate (steps_told head.opening) any_step in
    let t : length threats ≡ threats_told head.opening = length-replicate {A = ℕ} (threats_told head.opening) 0 in
    let l : length lines ≡ answers_told head.opening = length-replicate (answers_told head.opening) any_answer in
    let f : length fills ≡ fills_told head.opening = length-replicate (fills_told head.opening) any_fill in
    let each : EachEntryFits preamble.size (entries_for steps threats lines fills) =
    EachEntryFits-entries_for preamble.size steps threats lines fills (steps_fit preamble.size (steps_told head.opening))
    (threats_fit preamble.size (threats_told head.opening))
    (answers_fit preamble.size (answers_told head.opening) extent) (fills_fit preamble.size (fills_told head.opening) extent) in (
      node_for preamble head steps threats lines fills fits s t l f,
      node_for-fits preamble head steps threats lines fills fits s t l f each,
      head_of-node_for preamble head steps threats lines fills fits s t l f,
    )
