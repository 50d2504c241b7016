-- What is added to a list of entries of one kind, while the lists after it are empty, comes at the end of the entries;
-- and which kind of entry stands at a place follows from how many there are of each kind.
use Rattle.std.proofs.Common.{◌≡◌, ℕ, zero, suc, ◌+◌, ◌<◌, ◌≤◌, List, [], ◌∷◌, ◌++◌, length, map, refl}
use Rattle.std.proofs.Common.{sym, ap, ◌∙◌, arith, append_assoc, Some, ◌⊎◌, inl, inr, ⊎_elim}
use Rattle.std.proofs.lemmas.Bool.{cases_lt, lt-ltb, le-ltb}
use Rattle.std.specs.Prelude.{slice_get, nat_lt, if◌then◌else◌}
use Rattle.std.proofs.lemmas.List.{append-nil, map-append}
use Rattle.hx_inferior.specs.declared.fills.FillStep.{FillStep}
use Rattle.hx_link.specs.declared.steps.Step.{Step}
use Rattle.hx_tree.specs.declared.nodes.Line.{Line}
use Rattle.hx_tree.specs.declared.nodes.Rule.{Rule}
use Rattle.hx_tree.specs.declared.nodes.Rule.TheVariants.{Chain, Links, Move, All, Fill, Turned}
use Rattle.hx_text.specs.declared.entries.Entry.{Entry}
use Rattle.hx_text.specs.declared.entries.EntryKind.{EntryKind}
use Rattle.hx_text.specs.declared.entries.EntryKind.TheVariants.{Step as Step_kind, Threat as Threat_kind}
use Rattle.hx_text.specs.declared.entries.EntryKind.TheVariants.{Answer as Answer_kind, Fill as Fill_kind}
use Rattle.hx_text.specs.declared.heads.Opening.{Opening}
use Rattle.hx_text.specs.declared.heads.Opening.TheVariants.{Chain as Chain_opening, Links as Links_opening}
use Rattle.hx_text.specs.declared.heads.Opening.TheVariants.{Move as Move_opening, All as All_opening}
use Rattle.hx_text.specs.declared.heads.Opening.TheVariants.{Fill as Fill_opening, Turned as Turned_opening}
use Rattle.hx_text.specs.Entries.{kind_of, entries_for, entries_of, opening_of, steps_told}
use Rattle.hx_text.specs.Entries.{threats_told, answers_told, fills_told}
use Rattle.hx_parse.specs.EntryReads.{kind_at, rule_for}
use Rattle.hx_text.proofs.EntryLists.{step_entry, threat_entry, answer_entry, of_threats, of_answers}
use Rattle.hx_text.proofs.EntryLists.{of_fills, fill_entry, entries_for-parts}

pub entries_same : {s s' : List Step} {t t' : List ℕ} {l l' : List Line} {f f' : List FillStep} → s ≡ s' → t ≡ t' → l ≡ l' → f ≡ f'
    → entries_for s t l f ≡ entries_for s' t' l' f'
entries_same {s} {s'} {t} {t'} {l} {l'} {f} {f'} steps threats lines fills =
    ap (λ x. entries_for x t l f) steps ∙ ap (λ x. entries_for s' x l f) threats ∙ ap (λ x. entries_for s' t' x f) lines
    ∙ ap (λ x. entries_for s' t' l' x) fills

pub nil_of_length : {X : Type 0} (xs : List X) → length xs ≡ 0 → xs ≡ []
nil_of_length [] e = refl
nil_of_length (x ∷ xs) e = absurd (omega arith)

-- a number that cannot be above 0
pub zero_unless_some : (n : ℕ) → (0 < n → ⊥) → n ≡ 0
zero_unless_some n none = ⊎_elim (λ some. absurd (none some)) (λ (least : n ≤ 0). omega arith) (cases_lt 0 n)

-- ---- more at the end

pub steps_more : (steps more : List Step) (threats : List ℕ) (lines : List Line) (fills : List FillStep)
    → entries_for (steps ++ more) threats lines fills ≡ entries_for steps [] [] [] ++ entries_for more threats lines fills
steps_more steps more threats lines fills = simp (map-append, append_assoc, append-nil)

pub threats_more : (steps : List Step) (threats more : List ℕ) (lines : List Line) (fills : List FillStep)
    → entries_for steps (threats ++ more) lines fills ≡ entries_for steps threats [] [] ++ entries_for [] more lines fills
threats_more steps threats more lines fills = simp (map-append, append_assoc, append-nil)

pub answers_more : (steps : List Step) (threats : List ℕ) (lines more : List Line) (fills : List FillStep)
    → entries_for steps threats (lines ++ more) fills ≡ entries_for steps threats lines [] ++ entries_for [] [] more fills
answers_more steps threats lines more fills = simp (map-append, append_assoc, append-nil)

pub fills_more : (steps : List Step) (threats : List ℕ) (lines : List Line) (fills more : List FillStep)
    → entries_for steps threats lines (fills ++ more) ≡ entries_for steps threats lines fills ++ entries_for [] [] [] more
fills_more steps threats lines fills more = simp (map-append, append_assoc, append-nil)

-- ---- which kind of entry stands at a place

-- an entry is in the front of the list, and of its kind, or at a place in the rest
kind_in_front : {X : Type 0} (entry_for : X → Entry) (kind : EntryKind) (xs : List X) (rest : List Entry) (k : ℕ) (entry : Entry)
    → ((x : X) → kind_of (entry_for x) ≡ kind) → slice_get (map entry_for xs ++ rest) k ≡ Some entry
    → ((k < length xs) × (kind_of entry ≡ kind)) ⊎ ((j : ℕ) × (k ≡ length xs + j) × (slice_get rest j ≡ Some entry))
kind_in_front entry_for kind [] rest k entry each there = inr (k, omega arith, there)
kind_in_front entry_for kind (x ∷ xs) rest zero entry each there =
    let same : entry_for x ≡ entry = cc in
    inl (omega arith, ap kind_of (sym same) ∙ each x)
kind_in_front entry_for kind (x ∷ xs) rest (suc k) entry each there = one_later (kind_in_front entry_for kind xs rest k entry each there)
  where
    one_later : ((k < length xs) × (kind_of entry ≡ kind)) ⊎ ((j : ℕ) × (k ≡ length xs + j) × (slice_get rest j ≡ Some entry))
        → ((suc k < suc (length xs)) × (kind_of entry ≡ kind)) ⊎ ((j : ℕ) × (suc k ≡ suc (length xs) + j) × (slice_get rest j ≡ Some entry))
    one_later (inl here) = inl (omega arith, here.1)
    one_later (inr later) = inr (later.0, omega (arith, later.1), later.2)

kind_of_fill : (fills : List FillStep) (k : ℕ) (entry : Entry) → slice_get (of_fills fills) k ≡ Some entry → kind_of entry ≡ Fill_kind
kind_of_fill [] k entry there = cc
kind_of_fill (fill ∷ fills) zero entry there = let same : fill_entry fill ≡ entry = cc in ap kind_of (sym same)
kind_of_fill (fill ∷ fills) (suc k) entry there = kind_of_fill fills k entry there

-- the kind of the entry at a place, where so many steps, so many threats and so many answers come first
abbrev pub kind_among : ℕ → ℕ → ℕ → ℕ → EntryKind
kind_among steps threats answers k =
    if nat_lt k steps then Step_kind else if nat_lt k (steps + threats) then Threat_kind else
    if nat_lt k (steps + threats + answers) then Answer_kind else Fill_kind

pub kind_among_step : (steps threats answers k : ℕ) → k < steps → kind_among steps threats answers k ≡ Step_kind
kind_among_step steps threats answers k within = rw (lt-ltb k steps within) refl

pub kind_among_threat : (steps threats answers k : ℕ) → steps ≤ k → k < steps + threats → kind_among steps threats answers k ≡ Threat_kind
kind_among_threat steps threats answers k after within = rw (le-ltb k steps after, lt-ltb k (steps + threats) within) refl

pub kind_among_answer : (steps threats answers k : ℕ) → steps + threats ≤ k → k < steps + threats + answers
    → kind_among steps threats answers k ≡ Answer_kind
kind_among_answer steps threats answers k after within =
    rw (le-ltb k steps (omega arith), le-ltb k (steps + threats) after, lt-ltb k (steps + threats + answers) within) refl

pub kind_among_fill : (steps threats answers k : ℕ) → steps + threats + answers ≤ k → kind_among steps threats answers k ≡ Fill_kind
kind_among_fill steps threats answers k after =
    rw (le-ltb k steps (omega arith), le-ltb k (steps + threats) (omega arith), le-ltb k (steps + threats + answers) after) refl

kind_after_threats : (steps threats : ℕ) (lines : List Line) (fills : List FillStep) (k j : ℕ) (entry : Entry) → k ≡ steps + threats + j
    → slice_get (of_answers lines ++ of_fills fills) j ≡ Some entry → kind_of entry ≡ kind_among steps threats (length lines) k
kind_after_threats steps threats lines fills k j entry place there =
    later (kind_in_front answer_entry Answer_kind lines (of_fills fills) j entry (λ (line : Line). refl) there)
  where
    later : ((j < length lines) × (kind_of entry ≡ Answer_kind))
        ⊎ ((i : ℕ) × (j ≡ length lines + i) × (slice_get (of_fills fills) i ≡ Some entry))
        → kind_of entry ≡ kind_among steps threats (length lines) k
    later (inl here) = here.1 ∙ sym (kind_among_answer steps threats (length lines) k (omega arith) (omega (arith, here.0)))
    later (inr after) =
        kind_of_fill fills after.0 entry after.2 ∙ sym (kind_among_fill steps threats (length lines) k (omega (arith, after.1)))

kind_after_steps : (steps : ℕ) (places : List ℕ) (lines : List Line) (fills : List FillStep) (k j : ℕ) (entry : Entry) → k ≡ steps + j
    → slice_get (of_threats places ++ (of_answers lines ++ of_fills fills)) j ≡ Some entry
    → kind_of entry ≡ kind_among steps (length places) (length lines) k
kind_after_steps steps places lines fills k j entry place there =
    later (kind_in_front threat_entry Threat_kind places (of_answers lines ++ of_fills fills) j entry (λ (n : ℕ). refl) there)
  where
    later : ((j < length places) × (kind_of entry ≡ Threat_kind))
        ⊎ ((i : ℕ) × (j ≡ length places + i) × (slice_get (of_answers lines ++ of_fills fills) i ≡ Some entry))
        → kind_of entry ≡ kind_among steps (length places) (length lines) k
    later (inl here) = here.1 ∙ sym (kind_among_threat steps (length places) (length lines) k (omega arith) (omega (arith, here.0)))
    later (inr after) = kind_after_threats steps (length places) lines fills k after.0 entry (omega (arith, after.1)) after.2

kind_in_entries : (steps : List Step) (places : List ℕ) (lines : List Line) (fills : List FillStep) (k : ℕ) (entry : Entry)
    → slice_get (entries_for steps places lines fills) k ≡ Some entry
    → kind_of entry ≡ kind_among (length steps) (length places) (length lines) k
kind_in_entries steps places lines fills k entry there =
    found (kind_in_front step_entry Step_kind steps (of_threats places ++ (of_answers lines ++ of_fills fills)) k entry
    (λ (step : Step). refl)
    (ap (λ (es : List Entry). slice_get es k) (sym (entries_for-parts steps places lines fills)) ∙ there))
  where
    found : ((k < length steps) × (kind_of entry ≡ Step_kind))
        ⊎ ((j : ℕ) × (k ≡ length steps + j) × (slice_get (of_threats places ++ (of_answers lines ++ of_fills fills)) j ≡ Some entry))
        → kind_of entry ≡ kind_among (length steps) (length places) (length lines) k
    found (inl here) = here.1 ∙ sym (kind_among_step (length steps) (length places) (length lines) k here.0)
    found (inr after) = kind_after_steps (length steps) places lines fills k after.0 entry after.1 after.2

-- a rule's opening tells the kind of the entry at each place
pub kind_of_entry : (rule : Rule) (k : ℕ) (entry : Entry) → slice_get (entries_of rule) k ≡ Some entry
    → kind_of entry ≡ kind_at (opening_of rule) k
kind_of_entry Chain k entry there = cc
kind_of_entry (Links steps) k entry there = kind_in_entries steps [] [] [] k entry there
kind_of_entry (Move cell child) k entry there = cc
kind_of_entry (All steps threats lines) k entry there = kind_in_entries steps threats lines [] k entry there
kind_of_entry (Fill fills child) k entry there = kind_in_entries [] [] [] fills k entry there
kind_of_entry (Turned child) k entry there = cc

-- ---- rules

-- a rule with as many of each as its opening tells
pub opening_of-rule_for : (opening : Opening) (steps : List Step) (threats : List ℕ) (lines : List Line) (fills : List FillStep)
    → length steps ≡ steps_told opening → length threats ≡ threats_told opening → length lines ≡ answers_told opening
    → length fills ≡ fills_told opening → opening_of (rule_for opening steps threats lines fills) ≡ opening
opening_of-rule_for Chain_opening steps threats lines fills s t l f = refl
opening_of-rule_for (Links_opening told) steps threats lines fills s t l f = ap (λ (n : ℕ). Links_opening n) s
opening_of-rule_for (Move_opening cell child) steps threats lines fills s t l f = refl
opening_of-rule_for (All_opening told told_threats told_lines) steps threats lines fills s t l f =
    ap (λ (n : ℕ). All_opening n (length threats) (length lines)) s ∙ ap (λ (n : ℕ). All_opening told n (length lines)) t
    ∙ ap (λ (n : ℕ). All_opening told told_threats n) l
opening_of-rule_for (Fill_opening told child) steps threats lines fills s t l f = ap (λ (n : ℕ). Fill_opening n child) f
opening_of-rule_for (Turned_opening child) steps threats lines fills s t l f = refl

pub entries_of-rule_for : (opening : Opening) (steps : List Step) (threats : List ℕ) (lines : List Line) (fills : List FillStep)
    → length steps ≡ steps_told opening → length threats ≡ threats_told opening → length lines ≡ answers_told opening
    → length fills ≡ fills_told opening → entries_of (rule_for opening steps threats lines fills) ≡ entries_for steps threats lines fills
entries_of-rule_for Chain_opening steps threats lines fills s t l f =
    sym (entries_same (nil_of_length steps s) (nil_of_length threats t) (nil_of_length lines l) (nil_of_length fills f))
entries_of-rule_for (Links_opening told) steps threats lines fills s t l f =
    sym (entries_same refl (nil_of_length threats t) (nil_of_length lines l) (nil_of_length fills f))
entries_of-rule_for (Move_opening cell child) steps threats lines fills s t l f =
    sym (entries_same (nil_of_length steps s) (nil_of_length threats t) (nil_of_length lines l) (nil_of_length fills f))
entries_of-rule_for (All_opening told told_threats told_lines) steps threats lines fills s t l f =
    sym (entries_same refl refl refl (nil_of_length fills f))
entries_of-rule_for (Fill_opening told child) steps threats lines fills s t l f =
    sym (entries_same (nil_of_length steps s) (nil_of_length threats t) (nil_of_length lines l) refl)
entries_of-rule_for (Turned_opening child) steps threats lines fills s t l f =
    sym (entries_same (nil_of_length steps s) (nil_of_length threats t) (nil_of_length lines l) (nil_of_length fills f))
