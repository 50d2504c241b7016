-- One more entry of a node whose entries come one by one. It is of the kind that is due, so the lists after its own are
-- empty, and it comes at the end of the entries. When none is missing, the node is whole.
use Rattle.std.proofs.Common.{◌≡◌, ℕ, ◌+◌, ◌-◌, ◌<◌, ◌≤◌, Bool, true, false, List, [], ◌∷◌, ◌++◌, length, map}
use Rattle.std.proofs.Common.{refl, sym, ap, ◌∙◌, subst, arith, append_assoc, length-append, nat_lt, ⊎_elim}
use Rattle.std.specs.Prelude.{if◌then◌else◌}
use Rattle.std.proofs.lemmas.Bool.{cases_lt, lt-ltb, le-ltb}
use Rattle.std.proofs.lemmas.Bool.Decides.{nat_tests}
use Rattle.std.proofs.lemmas.List.{map-append}
use Rattle.hx_inferior.specs.declared.fills.FillStep.{FillStep}
use Rattle.hx_link.specs.declared.steps.Step.{Step as Link_step}
use Rattle.hx_tree.specs.declared.nodes.Line.{Line}
use Rattle.hx_tree.specs.declared.nodes.Node.{Node}
use Rattle.hx_text.specs.declared.entries.Entry.{Entry}
use Rattle.hx_text.specs.declared.entries.Entry.TheVariants.{Step as Step_entry, Threat as Threat_entry}
use Rattle.hx_text.specs.declared.entries.Entry.TheVariants.{Answer as Answer_entry, Fill as Fill_entry}
use Rattle.hx_text.specs.declared.entries.EntryKind.{EntryKind}
use Rattle.hx_text.specs.declared.entries.EntryKind.TheVariants.{Step as Step_kind, Threat as Threat_kind}
use Rattle.hx_text.specs.declared.entries.EntryKind.TheVariants.{Answer as Answer_kind, Fill as Fill_kind}
use Rattle.hx_text.specs.declared.heads.Head.{Head}
use Rattle.hx_parse.specs.declared.begun_nodes.Begun.{Begun}
use Rattle.hx_parse.specs.declared.places.Next.{Next}
use Rattle.hx_parse.specs.declared.so_far.SoFar.{SoFar}
use Rattle.hx_parse.specs.declared.places.Place.TheVariants.{Between, Inside}
use Rattle.hx_text.specs.Entries.{entry_line, kind_of, EntryFits, EachEntryFits, entries_of, steps_told}
use Rattle.hx_text.specs.Entries.{threats_told, answers_told, fills_told, entries_told}
use Rattle.hx_parse.specs.EntryReads.{IsEntryLine, kind_at, rule_for}
use Rattle.hx_parse.specs.Ors.{BeginsLongOr}
use Rattle.hx_text.specs.TreeTexts.{HeadFits, NodeFits, head_of, head_line, node_lines}
use Rattle.hx_text.specs.Lengths.{most_nodes}
use Rattle.hx_parse.specs.Places.{StandsSoFar, entries_in, IsInOrder, HasRoomForAll, StandsBegun, StandsInside}
use Rattle.hx_parse.specs.Places.{kind_due, IsAdded, HasNoRoomFor, HasSameRoom, IsWithEntry, GoesOn, SettlesNode}
use Rattle.hx_parse.specs.Places.{EndsNode, Brings, IsNextNode, TakesMemory, ForEntries, ForParts}
use Rattle.hx_parse.proofs.EntryKinds.{nil_of_length, zero_unless_some, entries_same, kind_among_step}
use Rattle.hx_parse.proofs.EntryKinds.{kind_among_threat, kind_among_answer, kind_among_fill, steps_more}
use Rattle.hx_parse.proofs.EntryKinds.{threats_more, answers_more, fills_more, opening_of-rule_for}
use Rattle.hx_parse.proofs.EntryKinds.{entries_of-rule_for}
use Rattle.hx_text.proofs.EntryLists.{EachEntryFits-append, length-entries_for}
use Rattle.hx_text.proofs.NodeParts.{node_lines-parts, node_fits}

-- ---- which kind is due

-- the kind by three tests: whether steps, threats and answers are still to come
abbrev kind_by : Bool → Bool → Bool → EntryKind
kind_by one two three = if one then Step_kind else if two then Threat_kind else if three then Answer_kind else Fill_kind

step_test : (one two three : Bool) → kind_by one two three ≡ Step_kind → one ≡ true
step_test true two three e = refl
step_test false true three e = cc
step_test false false true e = cc
step_test false false false e = cc

threat_test : (one two three : Bool) → kind_by one two three ≡ Threat_kind → (one ≡ false) × (two ≡ true)
threat_test true two three e = cc
threat_test false true three e = (refl, refl)
threat_test false false true e = cc
threat_test false false false e = cc

answer_test : (one two three : Bool) → kind_by one two three ≡ Answer_kind → (one ≡ false) × (two ≡ false) × (three ≡ true)
answer_test true two three e = cc
answer_test false true three e = cc
answer_test false false true e = (refl, refl, refl)
answer_test false false false e = cc

fill_test : (one two three : Bool) → kind_by one two three ≡ Fill_kind → (one ≡ false) × (two ≡ false) × (three ≡ false)
fill_test true two three e = cc
fill_test false true three e = cc
fill_test false false true e = cc
fill_test false false false e = (refl, refl, refl)

below : (a b : ℕ) → nat_lt a b ≡ true → a < b
below a b is = grind (arith, nat_tests)

past : (a b : ℕ) → nat_lt a b ≡ false → b ≤ a
past a b is = grind (arith, nat_tests)

module _ (begun : Begun) (order : IsInOrder begun) where
  pub step_due : kind_due begun ≡ Step_kind → length begun.steps.items < steps_told begun.head.opening
  step_due e = below _ _ (step_test _ _ _ e)

  pub threat_due : kind_due begun ≡ Threat_kind → (steps_told begun.head.opening ≤ length begun.steps.items)
      × (length begun.threats.items < threats_told begun.head.opening)
  threat_due e = let tests = threat_test _ _ _ e in (past _ _ tests.0, below _ _ tests.1)

  pub answer_due : kind_due begun ≡ Answer_kind → (steps_told begun.head.opening ≤ length begun.steps.items)
      × (threats_told begun.head.opening ≤ length begun.threats.items) × (length begun.lines.items < answers_told begun.head.opening)
  answer_due e = let tests = answer_test _ _ _ e in (past _ _ tests.0, past _ _ tests.1, below _ _ tests.2)

  pub fill_due : kind_due begun ≡ Fill_kind → (steps_told begun.head.opening ≤ length begun.steps.items)
      × (threats_told begun.head.opening ≤ length begun.threats.items) × (answers_told begun.head.opening ≤ length begun.lines.items)
  fill_due e = let tests = fill_test _ _ _ e in (past _ _ tests.0, past _ _ tests.1, past _ _ tests.2)

  pub no_threats_yet : length begun.steps.items < steps_told begun.head.opening → begun.threats.items ≡ []
  no_threats_yet less = nil_of_length begun.threats.items (zero_unless_some _ (λ some. omega (arith, order.threats_after_steps some)))

  pub no_answers_before_steps : length begun.steps.items < steps_told begun.head.opening → begun.lines.items ≡ []
  no_answers_before_steps less =
      nil_of_length begun.lines.items (zero_unless_some _ (λ some. omega (arith, order.answers_after_steps some)))

  pub no_fills_before_steps : length begun.steps.items < steps_told begun.head.opening → begun.fills.items ≡ []
  no_fills_before_steps less = nil_of_length begun.fills.items (zero_unless_some _ (λ some. omega (arith, order.fills_after_steps some)))

  pub no_answers_before_threats : length begun.threats.items < threats_told begun.head.opening → begun.lines.items ≡ []
  no_answers_before_threats less =
      nil_of_length begun.lines.items (zero_unless_some _ (λ some. omega (arith, order.answers_after_threats some)))

  pub no_fills_before_threats : length begun.threats.items < threats_told begun.head.opening → begun.fills.items ≡ []
  no_fills_before_threats less =
      nil_of_length begun.fills.items (zero_unless_some _ (λ some. omega (arith, order.fills_after_threats some)))

  pub no_fills_before_answers : length begun.lines.items < answers_told begun.head.opening → begun.fills.items ≡ []
  no_fills_before_answers less =
      nil_of_length begun.fills.items (zero_unless_some _ (λ some. omega (arith, order.fills_after_answers some)))

-- it is the kind of the place after the entries so far
pub kind_due-at : (begun : Begun) → IsInOrder begun → kind_due begun ≡ kind_at begun.head.opening (length (entries_in begun))
kind_due-at begun order = ⊎_elim at_step after_steps (cases_lt (length begun.steps.items) told_steps)
  where
    told_steps : ℕ
    told_steps = steps_told begun.head.opening

    told_threats : ℕ
    told_threats = threats_told begun.head.opening

    told_answers : ℕ
    told_answers = answers_told begun.head.opening

    count : length (entries_in begun)
        ≡ length begun.steps.items + length begun.threats.items + length begun.lines.items + length begun.fills.items
    count = length-entries_for begun.steps.items begun.threats.items begun.lines.items begun.fills.items

    at_step : length begun.steps.items < told_steps → kind_due begun ≡ kind_at begun.head.opening (length (entries_in begun))
    at_step less =
        let none : length begun.threats.items ≡ 0 = ap length (no_threats_yet begun order less) in
        let nor : length begun.lines.items ≡ 0 = ap length (no_answers_before_steps begun order less) in
        let neither : length begun.fills.items ≡ 0 = ap length (no_fills_before_steps begun order less) in
        rw (lt-ltb (length begun.steps.items) told_steps less)
        (sym (kind_among_step told_steps told_threats told_answers _ (omega (arith, count, none, nor, neither))))

    at_threat : told_steps ≤ length begun.steps.items → length begun.threats.items < told_threats
        → kind_due begun ≡ kind_at begun.head.opening (length (entries_in begun))
    at_threat past less =
        let nor : length begun.lines.items ≡ 0 = ap length (no_answers_before_threats begun order less) in
        let neither : length begun.fills.items ≡ 0 = ap length (no_fills_before_threats begun order less) in
        rw (le-ltb (length begun.steps.items) told_steps past, lt-ltb (length begun.threats.items) told_threats less)
        (sym (kind_among_threat told_steps told_threats told_answers _ (omega (arith, count, past))
        (omega (arith, count, nor, neither, less, order.steps))))

    at_answer : told_steps ≤ length begun.steps.items → told_threats ≤ length begun.threats.items → length begun.lines.items < told_answers
        → kind_due begun ≡ kind_at begun.head.opening (length (entries_in begun))
    at_answer past later less =
        let neither : length begun.fills.items ≡ 0 = ap length (no_fills_before_answers begun order less) in
        rw (
          le-ltb (length begun.steps.items) told_steps past,
          le-ltb (length begun.threats.items) told_threats later,
          lt-ltb (length begun.lines.items) told_answers less,
        )
        (sym (kind_among_answer told_steps told_threats told_answers _ (omega (arith, count, past, later))
        (omega (arith, count, neither, less, order.steps, order.threats))))

    at_fill : told_steps ≤ length begun.steps.items → told_threats ≤ length begun.threats.items → told_answers ≤ length begun.lines.items
        → kind_due begun ≡ kind_at begun.head.opening (length (entries_in begun))
    at_fill past later last =
        rw (
          le-ltb (length begun.steps.items) told_steps past,
          le-ltb (length begun.threats.items) told_threats later,
          le-ltb (length begun.lines.items) told_answers last,
        )
        (sym (kind_among_fill told_steps told_threats told_answers _ (omega (arith, count, past, later, last))))

    after_threats : told_steps ≤ length begun.steps.items → told_threats ≤ length begun.threats.items
        → kind_due begun ≡ kind_at begun.head.opening (length (entries_in begun))
    after_threats past later = ⊎_elim (at_answer past later) (at_fill past later) (cases_lt (length begun.lines.items) told_answers)

    after_steps : told_steps ≤ length begun.steps.items → kind_due begun ≡ kind_at begun.head.opening (length (entries_in begun))
    after_steps past = ⊎_elim (at_threat past) (after_threats past) (cases_lt (length begun.threats.items) told_threats)

-- ---- one more entry

module _ (old new : Begun) (order : IsInOrder old) (lacks : 0 < old.missing) where
  entries_now : (entry : Entry) → IsAdded old entry new → kind_of entry ≡ kind_due old → entries_in new ≡ entries_in old ++ entry ∷ []
  entries_now (Step_entry step) added kind =
      let less = step_due old order (sym kind) in
      let none = no_threats_yet old order less in
      let nor = no_answers_before_steps old order less in
      let neither = no_fills_before_steps old order less in
      entries_same added.0 (added.1 ∙ none) (added.2 ∙ nor) (added.3 ∙ neither) ∙ steps_more old.steps.items (step ∷ []) [] [] []
      ∙ ap (λ (front : List Entry). front ++ Step_entry step ∷ []) (entries_same refl (sym none) (sym nor) (sym neither))
  entries_now (Threat_entry place) added kind =
      let less = (threat_due old order (sym kind)).1 in
      let nor = no_answers_before_threats old order less in
      let neither = no_fills_before_threats old order less in
      entries_same added.0 added.1 (added.2 ∙ nor) (added.3 ∙ neither) ∙ threats_more old.steps.items old.threats.items (place ∷ []) [] []
      ∙ ap (λ (front : List Entry). front ++ Threat_entry place ∷ []) (entries_same refl refl (sym nor) (sym neither))
  entries_now (Answer_entry line) added kind =
      let neither = no_fills_before_answers old order (answer_due old order (sym kind)).2 in
      entries_same added.0 added.1 added.2 (added.3 ∙ neither)
      ∙ answers_more old.steps.items old.threats.items old.lines.items (line ∷ []) []
      ∙ ap (λ (front : List Entry). front ++ Answer_entry line ∷ []) (entries_same refl refl refl (sym neither))
  entries_now (Fill_entry fill) added kind =
      entries_same added.0 added.1 added.2 added.3
      ∙ fills_more old.steps.items old.threats.items old.lines.items old.fills.items (fill ∷ [])

  module _ (head : new.head ≡ old.head) (fewer : new.missing ≡ old.missing - 1) where
    in_order_by : (s t l f : ℕ) → length new.steps.items ≡ s → length new.threats.items ≡ t → length new.lines.items ≡ l
        → length new.fills.items ≡ f
        → s ≤ steps_told old.head.opening → t ≤ threats_told old.head.opening → l ≤ answers_told old.head.opening
        → f ≤ fills_told old.head.opening
        → (0 < t → s ≡ steps_told old.head.opening) → (0 < l → s ≡ steps_told old.head.opening)
        → (0 < l → t ≡ threats_told old.head.opening)
        → (0 < f → s ≡ steps_told old.head.opening) → (0 < f → t ≡ threats_told old.head.opening)
        → (0 < f → l ≡ answers_told old.head.opening)
        → s + t + l + f ≡ length old.steps.items + length old.threats.items + length old.lines.items + length old.fills.items + 1
        → IsInOrder new
    in_order_by s t l f es et el ef ls lt ll lf ats aas aat fas fat fal all =
        let told_s = ap (λ (h : Head). steps_told h.opening) head in
        let told_t = ap (λ (h : Head). threats_told h.opening) head in
        let told_l = ap (λ (h : Head). answers_told h.opening) head in
        let told_f = ap (λ (h : Head). fills_told h.opening) head in
        record {
          steps = rw (es, told_s) ls;
          threats = rw (et, told_t) lt;
          answers = rw (el, told_l) ll;
          fills = rw (ef, told_f) lf;
          threats_after_steps = rw (es, et, told_s) ats;
          answers_after_steps = rw (es, el, told_s) aas;
          answers_after_threats = rw (et, el, told_t) aat;
          fills_after_steps = rw (es, ef, told_s) fas;
          fills_after_threats = rw (et, ef, told_t) fat;
          fills_after_answers = rw (el, ef, told_l) fal;
          missing = omega (arith, es, et, el, ef, told_s, told_t, told_l, told_f, fewer, all, lacks, order.missing);
        }

    in_order_now : (entry : Entry) → IsAdded old entry new → kind_of entry ≡ kind_due old → IsInOrder new
    in_order_now (Step_entry step) added kind =
        let less = step_due old order (sym kind) in
        let t : length old.threats.items ≡ 0 = ap length (no_threats_yet old order less) in
        let l : length old.lines.items ≡ 0 = ap length (no_answers_before_steps old order less) in
        let f : length old.fills.items ≡ 0 = ap length (no_fills_before_steps old order less) in
        in_order_by (length old.steps.items + 1) 0 0 0 (ap length added.0 ∙ length-append old.steps.items (step ∷ []))
        (ap length added.1 ∙ t) (ap length added.2 ∙ l) (ap length added.3 ∙ f) (omega arith) (omega arith) (omega arith) (omega arith)
        (λ h. absurd (omega arith)) (λ h. absurd (omega arith)) (λ h. absurd (omega arith))
        (λ h. absurd (omega arith)) (λ h. absurd (omega arith)) (λ h. absurd (omega arith)) (omega arith)
    in_order_now (Threat_entry place) added kind =
        let due = threat_due old order (sym kind) in
        let l : length old.lines.items ≡ 0 = ap length (no_answers_before_threats old order due.1) in
        let f : length old.fills.items ≡ 0 = ap length (no_fills_before_threats old order due.1) in
        in_order_by (length old.steps.items) (length old.threats.items + 1) 0 0 (ap length added.0)
        (ap length added.1 ∙ length-append old.threats.items (place ∷ [])) (ap length added.2 ∙ l) (ap length added.3 ∙ f)
        order.steps (omega arith) (omega arith) (omega arith)
        (λ h. omega (arith, order.steps, due)) (λ h. absurd (omega arith)) (λ h. absurd (omega arith))
        (λ h. absurd (omega arith)) (λ h. absurd (omega arith)) (λ h. absurd (omega arith)) (omega arith)
    in_order_now (Answer_entry line) added kind =
        let due = answer_due old order (sym kind) in
        let f : length old.fills.items ≡ 0 = ap length (no_fills_before_answers old order due.2) in
        in_order_by (length old.steps.items) (length old.threats.items) (length old.lines.items + 1) 0 (ap length added.0)
        (ap length added.1)
        (ap length added.2 ∙ length-append old.lines.items (line ∷ [])) (ap length added.3 ∙ f) order.steps order.threats (omega arith)
        (omega arith)
        (λ h. omega (arith, order.steps, due)) (λ h. omega (arith, order.steps, due)) (λ h. omega (arith, order.threats, due))
        (λ h. absurd (omega arith)) (λ h. absurd (omega arith)) (λ h. absurd (omega arith)) (omega arith)
    in_order_now (Fill_entry fill) added kind =
        let due = fill_due old order (sym kind) in
        in_order_by (length old.steps.items) (length old.threats.items) (length old.lines.items) (length old.fills.items + 1)
        (ap length added.0) (ap length added.1) (ap length added.2) (ap length added.3 ∙ length-append old.fills.items (fill ∷ []))
        order.steps order.threats order.answers
        (omega (arith, order.missing, order.steps, order.threats, order.answers, order.fills, lacks, due))
        (λ h. omega (arith, order.steps, due)) (λ h. omega (arith, order.steps, due)) (λ h. omega (arith, order.threats, due))
        (λ h. omega (arith, order.steps, due)) (λ h. omega (arith, order.threats, due)) (λ h. omega (arith, order.answers, due))
        (omega arith)

-- the lists have room as before
room_kept : (old new : Begun) → HasSameRoom old new → new.head ≡ old.head → HasRoomForAll old → HasRoomForAll new
room_kept old new same head room = record {
  steps = rw (head, same.steps) room.steps;
  threats = rw (head, same.threats) room.threats;
  answers = rw (head, same.answers) room.answers;
  fills = rw (head, same.fills) room.fills;
}

-- the list of the kind that is due is not full
pub room_for_due : (begun : Begun) → IsInOrder begun → HasRoomForAll begun → 0 < begun.missing → (entry : Entry)
    → kind_of entry ≡ kind_due begun → HasNoRoomFor begun entry → ⊥
room_for_due begun order room lacks (Step_entry step) kind full =
    absurd (omega (arith, step_due begun order (sym kind), room.steps, full))
room_for_due begun order room lacks (Threat_entry place) kind full =
    absurd (omega (arith, (threat_due begun order (sym kind)).1, room.threats, full))
room_for_due begun order room lacks (Answer_entry line) kind full =
    absurd (omega (arith, (answer_due begun order (sym kind)).2, room.answers, full))
room_for_due begun order room lacks (Fill_entry fill) kind full =
    absurd (omega (
      arith,
      fill_due begun order (sym kind),
      order.missing,
      order.steps,
      order.threats,
      order.answers,
      order.fills,
      room.fills,
      full,
      lacks,
    ))

-- the lines with one entry more
pub stands_with_entry : (old new : Begun) (entry : Entry) (nodes : List Node) (lines : List (List ℕ)) → IsWithEntry old entry new
    → StandsInside old nodes lines → IsEntryLine old.so_far.preamble.size (kind_due old) entry
    → StandsBegun new nodes (lines ++ entry_line entry ∷ [])
stands_with_entry old new entry nodes lines now stands fits =
    let so = stands.begun_so in
    let are : entries_in new ≡ entries_in old ++ entry ∷ [] = entries_now old new so.in_order stands.lacks entry now.added fits.1 in
    let all : EachEntryFits old.so_far.preamble.size (entries_in new) =
    rw are (EachEntryFits-append old.so_far.preamble.size (entries_in old) (entry ∷ []) so.each (fits.0, tt)) in
    record {
      before = so.before;
      stands = rw now.same_so_far so.stands;
      room = rw now.same_so_far so.room;
      head = rw (now.same_so_far, now.same_head) so.head;
      in_order = in_order_now old new so.in_order stands.lacks now.same_head now.missing entry now.added fits.1;
      lists = room_kept old new now.rooms now.same_head so.lists;
      each = rw now.same_so_far all;
      same = ap (λ (ls : List (List ℕ)). ls ++ entry_line entry ∷ []) so.same
          ∙ append_assoc so.before (head_line old.head ∷ map entry_line (entries_in old)) (entry_line entry ∷ [])
          ∙ ap (λ (ls : List (List ℕ)). so.before ++ head_line old.head ∷ ls) (sym (map-append entry_line (entries_in old) (entry ∷ [])))
          ∙ ap (λ (es : List Entry). so.before ++ head_line old.head ∷ map entry_line es) (sym are)
          ∙ ap (λ (h : Head). so.before ++ head_line h ∷ map entry_line (entries_in new)) (sym now.same_head);
    }

-- the line of an entry that is due, where more entries follow
pub went_on : (old new : Begun) (entry : Entry) (line : List ℕ) → 1 < old.missing
    → EntryFits old.so_far.preamble.size entry → kind_due old ≡ kind_of entry
    → line ≡ entry_line entry → IsWithEntry old entry new → GoesOn (Inside old) line (Inside new)
went_on old new entry line more fits due is now = (
  old,
  refl,
  λ nodes lines stands. (
    (λ e. cc),
    rw is
        (record {
          begun_so = stands_with_entry old new entry nodes lines now stands (fits, sym due);
          lacks = omega (arith, now.missing, more);
        }),
  ),
)

-- where a step is due, a line that begins as that of an Or takes memory
pub or_takes_memory : (begun : Begun) (line : List ℕ) → kind_due begun ≡ Step_kind → BeginsLongOr line
    → TakesMemory (Inside begun) line
or_takes_memory begun line due is = ForParts begun refl due is

-- ---- the whole node

abbrev node_with : Head → List Link_step → List ℕ → List Line → List FillStep → Node
node_with head steps threats lines fills = record { heading = head.heading; rule = rule_for head.opening steps threats lines fills }

abbrev pub node_of : Begun → Node
node_of begun = node_with begun.head begun.steps.items begun.threats.items begun.lines.items begun.fills.items

pub whole_node : (begun : Begun) (nodes : List Node) (lines : List (List ℕ)) → begun.missing ≡ 0 → (stands : StandsBegun begun nodes lines)
    → NodeFits begun.so_far.preamble (node_of begun) × (lines ≡ stands.before ++ node_lines (node_of begun))
whole_node begun nodes lines none stands =
    let order = stands.in_order in
    let s : length begun.steps.items ≡ steps_told begun.head.opening =
    omega (arith, order.steps, order.threats, order.answers, order.fills, order.missing, none) in
    let t : length begun.threats.items ≡ threats_told begun.head.opening =
    omega (arith, order.steps, order.threats, order.answers, order.fills, order.missing, none) in
    let l : length begun.lines.items ≡ answers_told begun.head.opening =
    omega (arith, order.steps, order.threats, order.answers, order.fills, order.missing, none) in
    let f : length begun.fills.items ≡ fills_told begun.head.opening =
    omega (arith, order.steps, order.threats, order.answers, order.fills, order.missing, none) in
    let head : head_of (node_of begun) ≡ begun.head =
    ap (λ o. let h : Head = record { heading = begun.head.heading; opening = o } in h)
    (opening_of-rule_for begun.head.opening _ _ _ _ s t l f) in
    let entries : entries_of (node_of begun).rule ≡ entries_in begun = entries_of-rule_for begun.head.opening _ _ _ _ s t l f in (
      node_fits (node_of begun) (rw head stands.head) (rw entries stands.each),
      stands.same ∙ ap (λ (h : Head). stands.before ++ head_line h ∷ map entry_line (entries_in begun)) (sym head)
          ∙ ap (λ (es : List Entry). stands.before ++ head_line (head_of (node_of begun)) ∷ map entry_line es) (sym entries)
          ∙ ap (λ (ls : List (List ℕ)). stands.before ++ ls) (sym (node_lines-parts (node_of begun))),
    )

pub settled_whole : (begun : Begun) (node : Node) (next : Next) → begun.missing ≡ 0 → node ≡ node_of begun → EndsNode begun.so_far node next
    → SettlesNode begun next
settled_whole begun node next none is ends = λ nodes lines stands.
    let whole = whole_node begun nodes lines none stands in
    let P : Node → Type 0 = λ n. NodeFits begun.so_far.preamble n in
    let Q : List (List ℕ) → Type 0 = Brings next.fed next.place nodes in
    subst Q (sym (whole.1 ∙ ap (λ (n : Node). stands.before ++ node_lines n) (sym is)))
    (ends nodes stands.before stands.stands stands.room (subst P (sym is) whole.0))

-- a first line that tells of some entries takes memory
pub first_line_takes_memory : (so_far : SoFar) (head : Head) → HeadFits so_far.preamble head → 0 < entries_told head.opening
    → TakesMemory (Between so_far) (head_line head)
first_line_takes_memory so_far head fits some =
    let first : IsNextNode (Between so_far) (head_line head) =
    record { so_far = so_far; is = refl; head = head; fits = fits; same = refl } in
    ForEntries first some

-- a node of which no entry came yet
pub begun_with_head : (begun : Begun) (nodes : List Node) (before : List (List ℕ)) → begun.steps.items ≡ []
    → begun.threats.items ≡ [] → begun.lines.items ≡ []
    → begun.fills.items ≡ [] → begun.missing ≡ entries_told begun.head.opening → HasRoomForAll begun
    → StandsSoFar begun.so_far nodes before → begun.so_far.count < most_nodes
    → HeadFits begun.so_far.preamble begun.head → StandsBegun begun nodes (before ++ head_line begun.head ∷ [])
begun_with_head begun nodes before no_steps no_threats no_lines no_fills all lists stands room fits =
    let none : entries_in begun ≡ [] = entries_same no_steps no_threats no_lines no_fills in
    let s : length begun.steps.items ≡ 0 = ap length no_steps in
    let t : length begun.threats.items ≡ 0 = ap length no_threats in
    let l : length begun.lines.items ≡ 0 = ap length no_lines in
    let f : length begun.fills.items ≡ 0 = ap length no_fills in
    record {
      before = before;
      stands = stands;
      room = room;
      head = fits;
      in_order = record {
        steps = omega arith;
        threats = omega arith;
        answers = omega arith;
        fills = omega arith;
        threats_after_steps = λ h. absurd (omega arith);
        answers_after_steps = λ h. absurd (omega arith);
        answers_after_threats = λ h. absurd (omega arith);
        fills_after_steps = λ h. absurd (omega arith);
        fills_after_threats = λ h. absurd (omega arith);
        fills_after_answers = λ h. absurd (omega arith);
        missing = omega (arith, all);
      };
      lists = lists;
      each = rw none tt;
      same = sym (ap (λ (es : List Entry). before ++ head_line begun.head ∷ map entry_line es) none);
    }
