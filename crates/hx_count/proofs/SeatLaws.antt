-- What a seat is after each of its steps.
use Rattle.std.proofs.Common.{◌≡◌, ℕ, ◌+◌, ◌-◌, ◌%◌, ◌^◌, ◌<◌, ◌≤◌, Bool, true, false, List, [], ◌∷◌, ◌++◌, length, refl, sym, ap, ◌∙◌}
use Rattle.std.proofs.Common.{subst, arith, Ok, Err}
use Rattle.std.specs.Prelude.{slice_index}
use Rattle.std.proofs.lemmas.Bool.{lt-ltb, le-ltb}
use mathlib.Core.Option.{none}
use Rattle.atomic_table.specs.Seated.{TableId}
use Rattle.atomic_table.specs.Table.{step, Allows}
use Rattle.hx_count.specs.declared.events.CountEvent.{CountEvent}
use Rattle.hx_count.specs.declared.events.TheConstants.{MOST_HELD}
use Rattle.hx_count.specs.declared.events.CountEvent.TheVariants.{Spend, Hold, Release, Look}
use Rattle.hx_count.specs.declared.views.Limits.{Limits}
use Rattle.hx_count.specs.declared.views.Part.{Part}
use Rattle.hx_count.specs.declared.views.View.{View}
use Rattle.hx_count.specs.Machine.{CountsState, Account, account_of, granted_to_all, losses_at, held_in_all, has_units, with_unit}
use Rattle.hx_count.specs.Machine.{with_refusal, holding, releasing, counts_step, counts_run, IsAllowed, AreAllowed}
use Rattle.hx_count.specs.Histories.{GoesOn}
use Rattle.hx_count.specs.Counted.{start_of, state_after, IsHistory, part, view, Counted, Seated, IsNext, IsSpend, IsLook, spends, holds}
use Rattle.hx_count.specs.Counted.{releases, looks}
use Rattle.hx_count.specs.Seats.{Origin, origin, Seat, own, state_seen, seat_of, first_part, account_in, SeatKeeps, Adds, Spends}
use Rattle.hx_count.proofs.MachineLaws.{run-append, run-budget, goes_on-account, spend-unit, spend-refusal, hold-own, release-own}
use Rattle.hx_count.proofs.MachineLaws.{held-holding, held-releasing, losses-own, granted-own, refused-own, history-in_budget}
use Rattle.hx_count.proofs.Changes.{changed-here}
use Rattle.hx_count.proofs.Keeps.{spends-keep, holds-keep, releases-keep, looks-keep}

-- a seat made a step: it is this event, and changes the worker's account so
pub record Steps (event : ℕ → CountEvent) (change : Account → Account) (old new : Seat) : Type 0 where
  pub made : new.made ≡ old.made
  pub next : Adds old (event old.worker) new
  pub own : own new ≡ change (own old)

-- the last event of a history was allowed
allowed-last : (state : CountsState) (events : List CountEvent) (event : CountEvent) → AreAllowed state (events ++ event ∷ [])
    → IsAllowed (counts_run state events) event
allowed-last state [] event all = all.0
allowed-last state (first ∷ events) event all = allowed-last (counts_step state first) events event all.1

-- ---- a seat before its step

-- a seat of the counts is of their table, and that has the word
pub seat-fits : {table seat_table : TableId} {limits key : Limits} {p : Part} {counts : Origin} {old : Seat} (word : ℕ)
    → origin table limits ≡ counts → key ≡ limits → table.words ≡ limits.words + 1 → seat_of seat_table p ≡ old → old.made ≡ counts
    → word < counts.limits.words → (seat_table ≡ table) × (word + 1 < table.words) × (word < key.words)
seat-fits {key = key} word is_counts is_key words is_old made inside =
    let few : word < key.words = omega (arith, ap (λ (o : Origin). o.limits.words) is_counts, ap (λ (l : Limits). l.words) is_key) in (
      ap (λ (s : Seat). s.made.table) is_old ∙ (ap (λ (o : Origin). o.table) made ∙ sym (ap (λ (o : Origin). o.table) is_counts)),
      omega (arith, few, ap (λ (l : Limits). l.words) is_key),
      few,
    )

module _ (limits : Limits) (slots id : ℕ) (me : Seated) (granted held : ℕ) (refused : Bool) (k : SeatKeeps me granted held refused) where
  abbrev p : Part
  p = first_part me.0

  abbrev own_account : Account
  own_account = account_of (state_after p.limits p.seen) p.worker

  pub may-spend : refused ≡ false → Allows (Counted limits) slots id me 0 (λ n. (n + 1) % 2 ^ 64) (spends (step slots 0 1 0 none) me)
  may-spend not_yet = subst
      (λ (m : Seated). Allows (Counted limits) slots id m 0 (λ n. (n + 1) % 2 ^ 64) (spends (step slots 0 1 0 none) m)) (sym k.whole)
      (spends-keep limits slots id p (k.same_refused ∙ not_yet))

  pub may-hold : (word : ℕ) → word < limits.words → held_in_all own_account < MOST_HELD
      → Allows (Counted limits) slots id me (word + 1) (λ n. (n + 1) % 2 ^ 64) (holds (step slots (word + 1) 1 0 none) me)
  may-hold word inside room =
      subst (λ (m : Seated).
      Allows (Counted limits) slots id m (word + 1) (λ n. (n + 1) % 2 ^ 64) (holds (step slots (word + 1) 1 0 none) m)) (sym k.whole)
      (holds-keep limits slots id p word inside room)

  pub may-release : (word : ℕ) → word < limits.words → 0 < slice_index own_account.held word
      → Allows (Counted limits) slots id me (word + 1) (λ n. (n + (2 ^ 64 - 1)) % 2 ^ 64) (releases (step slots (word + 1) 1 0 none) me)
  may-release word inside some_held =
      subst (λ (m : Seated).
      Allows (Counted limits) slots id m (word + 1) (λ n. (n + (2 ^ 64 - 1)) % 2 ^ 64) (releases (step slots (word + 1) 1 0 none) m))
      (sym k.whole) (releases-keep limits slots id p word inside some_held)

  pub may-look : (word : ℕ) → word < limits.words
      → Allows (Counted limits) slots id me (word + 1) (λ n. n) (looks (step slots (word + 1) 0 0 none) me)
  may-look word inside =
      subst (λ (m : Seated). Allows (Counted limits) slots id m (word + 1) (λ n. n) (looks (step slots (word + 1) 0 0 none) m))
      (sym k.whole) (looks-keep limits slots id p word inside)

-- ---- what was told of a step

-- the account after an event of the worker's, which is the next one of the history
module _ (limits : Limits) (worker : ℕ) (seen before : List CountEvent) (on : GoesOn worker seen before) where
  was : account_of (state_after limits before) worker ≡ account_of (state_after limits seen) worker
  was = goes_on-account (start_of limits) worker seen before on

  after : (event : CountEvent) → state_after limits (before ++ event ∷ []) ≡ counts_step (state_after limits before) event
  after event = run-append (start_of limits) before (event ∷ [])

  module _ (is : IsHistory limits (before ++ Spend worker ∷ [])) where
    spender : worker < length (state_after limits before).accounts
    spender = (allowed-last (start_of limits) before (Spend worker) is).0

    pub account-unit : has_units (state_after limits before) ≡ true
        → account_of (state_after limits (before ++ Spend worker ∷ [])) worker ≡ with_unit (account_of (state_after limits seen) worker)
    account-unit units = ap (λ (s : CountsState). account_of s worker) (after (Spend worker))
        ∙ (spend-unit (state_after limits before) worker spender units ∙ ap with_unit was)

    pub account-refusal : has_units (state_after limits before) ≡ false
        → account_of (state_after limits (before ++ Spend worker ∷ [])) worker ≡ with_refusal (account_of (state_after limits seen) worker)
    account-refusal units = ap (λ (s : CountsState). account_of s worker) (after (Spend worker))
        ∙ (spend-refusal (state_after limits before) worker spender units ∙ ap with_refusal was)

  pub account-hold : (word : ℕ) → IsHistory limits (before ++ Hold worker word ∷ [])
      → account_of (state_after limits (before ++ Hold worker word ∷ [])) worker ≡ holding word
      (account_of (state_after limits seen) worker)
  account-hold word is = ap (λ (s : CountsState). account_of s worker) (after (Hold worker word))
      ∙ (hold-own (state_after limits before) worker (allowed-last (start_of limits) before (Hold worker word) is).0 word
      ∙ ap (holding word) was)

  -- there is room for the word in the account
  pub hold-inside : (word : ℕ) → IsHistory limits (before ++ Hold worker word ∷ [])
      → word < length (account_of (state_after limits seen) worker).held
  hold-inside word is = subst (λ (a : Account). word < length a.held) was (allowed-last (start_of limits) before (Hold worker word) is).1.0

  pub account-release : (word : ℕ) → IsHistory limits (before ++ Release worker word ∷ [])
      → account_of (state_after limits (before ++ Release worker word ∷ [])) worker ≡ releasing word
      (account_of (state_after limits seen) worker)
  account-release word is = ap (λ (s : CountsState). account_of s worker) (after (Release worker word))
      ∙ (release-own (state_after limits before) worker (allowed-last (start_of limits) before (Release worker word) is).0 word
      ∙ ap (releasing word) was)

  pub account-look : (word : ℕ)
      → account_of (state_after limits (before ++ Look worker word ∷ [])) worker ≡ account_of (state_after limits seen) worker
  account-look word = ap (λ (s : CountsState). account_of s worker) (after (Look worker word)) ∙ was

-- ---- the seat after its step

-- a part that is the only one of a view is its first
only-first_part : (v : View) (q : Part) → v ≡ view (q ∷ []) → first_part v ≡ q
only-first_part v q same = ap first_part same

pub keeps-part : (me : Seated) (q : Part) (granted held : ℕ) (refused : Bool) → me.0 ≡ view (q ∷ []) → me.1 ≡ [] → IsHistory q.limits q.seen
    → (account_of (state_after q.limits q.seen) q.worker).granted ≡ granted
    → (account_of (state_after q.limits q.seen) q.worker).refused ≡ refused
    → held_in_all (account_of (state_after q.limits q.seen) q.worker) ≡ held → SeatKeeps me granted held refused
keeps-part me q granted held refused one bare is same_granted same_refused same_held =
    let first = only-first_part me.0 q one in
    subst (λ (m : Seated). SeatKeeps m granted held refused) (sym (λ i. (one i, bare i)))
    (record { whole = refl; is_history = is; same_granted = same_granted; same_refused = same_refused; same_held = same_held })

module _ (table table_after : TableId) (same : table_after ≡ table) (p : Part) (me : Seated) where
  adds-next : (event : CountEvent) → IsNext p event me.0 → Adds (seat_of table p) event (seat_of table_after (first_part me.0))
  adds-next event next = record {
    before = next.before;
    goes_on = next.goes_on;
    is_history = next.is_history;
    same = λ i. seat_of (same i) (only-first_part me.0 (part p.limits p.worker (next.before ++ event ∷ [])) next.seen i);
  }

  -- what the worker has then
  own-next : (event : CountEvent) (next : IsNext p event me.0)
      → own (seat_of table_after (first_part me.0)) ≡ account_of (state_after p.limits (next.before ++ event ∷ [])) p.worker
  own-next event next =
      ap (λ (q : Part). account_of (state_after q.limits q.seen) q.worker)
      (only-first_part me.0 (part p.limits p.worker (next.before ++ event ∷ [])) next.seen)

  module _ (old : Seat) (is_old : seat_of table p ≡ old) where
    abbrev new : Seat
    new = seat_of table_after (first_part me.0)

    -- the step was this event, and changes the account so
    stepped : (event : ℕ → CountEvent) (change : Account → Account) (next : IsNext p (event p.worker) me.0)
        → account_of (state_after p.limits (next.before ++ event p.worker ∷ [])) p.worker ≡ change (account_in p)
        → Steps event change old new
    stepped event change next account = record {
      made = ap (λ (n : Seat). n.made) (adds-next (event p.worker) next).same ∙ ap (λ (o : Seat). o.made) is_old;
      next = subst (λ (o : Seat). Adds o (event o.worker) new) is_old (adds-next (event p.worker) next);
      own = own-next (event p.worker) next ∙ (account ∙ ap (λ (o : Seat). change (own o)) is_old);
    }

    units-left : (found : ℕ) (t : IsSpend p found me.0) → found < p.limits.budget → has_units (state_after p.limits t.next.before) ≡ true
    units-left found t room =
        lt-ltb (granted_to_all (state_after p.limits t.next.before)) (state_after p.limits t.next.before).budget
        (omega (arith, t.granted, room, run-budget (start_of p.limits) t.next.before))

    no-units : (found : ℕ) (t : IsSpend p found me.0) → p.limits.budget ≤ found → has_units (state_after p.limits t.next.before) ≡ false
    no-units found t full =
        le-ltb (granted_to_all (state_after p.limits t.next.before)) (state_after p.limits t.next.before).budget
        (omega (arith, t.granted, full, run-budget (start_of p.limits) t.next.before))

    pub spends-ok : (found : ℕ) → IsSpend p found me.0 → found < p.limits.budget → Spends old (Ok tt) new
    unfolding adds-next
    spends-ok found t room =
        subst (λ (o : Seat). Spends o (Ok tt) new) is_old
        (record { adds = adds-next (Spend p.worker) t.next; exact = units-left found t room })

    pub spends-err : (found taken : ℕ) → IsSpend p found me.0 → p.limits.budget ≤ found → Spends old (Err taken) new
    unfolding adds-next
    spends-err found taken t full =
        subst (λ (o : Seat). Spends o (Err taken) new) is_old
        (record { adds = adds-next (Spend p.worker) t.next; exact = no-units found t full })

    pub steps-ok : (found : ℕ) → IsSpend p found me.0 → found < p.limits.budget → Steps (λ (w : ℕ). Spend w) with_unit old new
    steps-ok found t room =
        stepped (λ (w : ℕ). Spend w) with_unit t.next
        (account-unit p.limits p.worker p.seen t.next.before t.next.goes_on t.next.is_history (units-left found t room))

    pub steps-err : (found : ℕ) → IsSpend p found me.0 → p.limits.budget ≤ found → Steps (λ (w : ℕ). Spend w) with_refusal old new
    steps-err found t full =
        stepped (λ (w : ℕ). Spend w) with_refusal t.next
        (account-refusal p.limits p.worker p.seen t.next.before t.next.goes_on t.next.is_history (no-units found t full))

    -- after a refusal all units are granted
    pub granted-err : (found : ℕ) → IsSpend p found me.0 → p.limits.budget ≤ found → granted_to_all (state_seen new) ≡ p.limits.budget
    granted-err found t full =
        let history = t.next.before ++ Spend p.worker ∷ [] in
        let same : state_seen new ≡ state_after p.limits history =
        ap (λ (q : Part). state_after q.limits q.seen) (only-first_part me.0 (part p.limits p.worker history) t.next.seen) in
        let mine : (own new).refused ≡ true = ap (λ (a : Account). a.refused) (steps-err found t full).own in
        let mine_there : (account_of (state_after p.limits history) p.worker).refused ≡ true =
        sym (ap (λ (a : Account). a.refused) (own-next (Spend p.worker) t.next)) ∙ mine in
        let in_budget = history-in_budget p.limits.budget p.limits.words p.limits.workers history t.next.is_history in
        ap granted_to_all same
        ∙ (in_budget.full (refused-own (state_after p.limits history) p.worker mine_there) ∙ run-budget (start_of p.limits) history)

    pub steps-hold : (word : ℕ) → IsNext p (Hold p.worker word) me.0 → Steps (λ (w : ℕ). Hold w word) (holding word) old new
    steps-hold word next =
        stepped (λ (w : ℕ). Hold w word) (holding word) next
        (account-hold p.limits p.worker p.seen next.before next.goes_on word next.is_history)

    -- what was held can be released
    pub held-hold : (word : ℕ) → IsNext p (Hold p.worker word) me.0 → 0 < slice_index (own new).held word
    held-hold word next =
        let inside : word < length (own old).held =
        subst (λ (o : Seat). word < length (own o).held) is_old
        (hold-inside p.limits p.worker p.seen next.before next.goes_on word next.is_history) in
        omega (
          arith,
          ap (λ (a : Account). slice_index a.held word) (steps-hold word next).own,
          changed-here (λ (n : ℕ). n + 1) (own old).held word 0 inside,
        )

    pub steps-release : (word : ℕ) → IsNext p (Release p.worker word) me.0
        → Steps (λ (w : ℕ). Release w word) (releasing word) old new
    steps-release word next =
        stepped (λ (w : ℕ). Release w word) (releasing word) next
        (account-release p.limits p.worker p.seen next.before next.goes_on word next.is_history)

    -- a look
    module _ (word found : ℕ) (t : IsLook p word found me.0) where
      pub steps-look : Steps (λ (w : ℕ). Look w word) (λ (a : Account). a) old new
      steps-look =
          stepped (λ (w : ℕ). Look w word) (λ (a : Account). a) t.next
          (account-look p.limits p.worker p.seen t.next.before t.next.goes_on word)

      pub sum-look : found ≡ losses_at (state_seen new) word
      sum-look =
          let history = t.next.before ++ Look p.worker word ∷ [] in
          let same : state_seen new ≡ state_after p.limits history =
          ap (λ (q : Part). state_after q.limits q.seen) (only-first_part me.0 (part p.limits p.worker history) t.next.seen) in
          t.losses ∙ ap (λ (s : CountsState). losses_at s word)
          (sym (same ∙ run-append (start_of p.limits) t.next.before (Look p.worker word ∷ [])))

      pub least-look : slice_index (own old).held word ≤ found
      least-look = omega (
        arith,
        ap (λ (a : Account). slice_index a.held word) steps-look.own,
        sum-look,
        losses-own (state_seen new) new.worker word,
      )

-- ---- the fields after a step

module _ (me after_me : Seated) (granted held : ℕ) (refused : Bool) (k : SeatKeeps me granted held refused) (bare : after_me.1 ≡ me.1) where
  abbrev q : Part
  q = first_part me.0

  stays-bare : after_me.1 ≡ []
  stays-bare = bare ∙ ap (λ (m : Seated). m.1) k.whole

  -- what the seat was granted is within the budget
  pub own-granted : granted ≤ q.limits.budget
  own-granted =
      let in_budget = history-in_budget q.limits.budget q.limits.words q.limits.workers q.seen k.is_history in
      omega (
        arith,
        k.same_granted,
        granted-own (state_after q.limits q.seen) q.worker,
        in_budget.within,
        run-budget (start_of q.limits) q.seen,
      )

  -- where the seat was refused, all units are granted
  pub refused-granted : refused ≡ true → granted_to_all (state_after q.limits q.seen) ≡ q.limits.budget
  refused-granted yes_refused =
      let in_budget = history-in_budget q.limits.budget q.limits.words q.limits.workers q.seen k.is_history in
      in_budget.full (refused-own (state_after q.limits q.seen) q.worker (k.same_refused ∙ yes_refused))
      ∙ run-budget (start_of q.limits) q.seen

  module _ (found : ℕ) (t : IsSpend q found after_me.0) where
    abbrev longer : List CountEvent
    longer = t.next.before ++ Spend q.worker ∷ []

    pub keeps-ok : found < q.limits.budget → SeatKeeps after_me (granted + 1) held refused
    keeps-ok room =
        let units : has_units (state_after q.limits t.next.before) ≡ true =
        lt-ltb (granted_to_all (state_after q.limits t.next.before)) (state_after q.limits t.next.before).budget
        (omega (arith, t.granted, room, run-budget (start_of q.limits) t.next.before)) in
        let mine = account-unit q.limits q.worker q.seen t.next.before t.next.goes_on t.next.is_history units in
        keeps-part after_me (part q.limits q.worker longer) (granted + 1) held refused t.next.seen stays-bare t.next.is_history
        (ap (λ (a : Account). a.granted) mine ∙ ap (λ n. n + 1) k.same_granted)
        (ap (λ (a : Account). a.refused) mine ∙ k.same_refused)
        (ap held_in_all mine ∙ k.same_held)

    pub keeps-err : q.limits.budget ≤ found → SeatKeeps after_me granted held true
    keeps-err full =
        let units : has_units (state_after q.limits t.next.before) ≡ false =
        le-ltb (granted_to_all (state_after q.limits t.next.before)) (state_after q.limits t.next.before).budget
        (omega (arith, t.granted, full, run-budget (start_of q.limits) t.next.before)) in
        let mine = account-refusal q.limits q.worker q.seen t.next.before t.next.goes_on t.next.is_history units in
        keeps-part after_me (part q.limits q.worker longer) granted held true t.next.seen stays-bare t.next.is_history
        (ap (λ (a : Account). a.granted) mine ∙ k.same_granted)
        (ap (λ (a : Account). a.refused) mine)
        (ap held_in_all mine ∙ k.same_held)

  pub keeps-hold : (word : ℕ) → IsNext q (Hold q.worker word) after_me.0 → SeatKeeps after_me granted (held + 1) refused
  keeps-hold word next =
      let mine = account-hold q.limits q.worker q.seen next.before next.goes_on word next.is_history in
      let inside = hold-inside q.limits q.worker q.seen next.before next.goes_on word next.is_history in
      keeps-part after_me (part q.limits q.worker (next.before ++ Hold q.worker word ∷ [])) granted
      (held + 1) refused next.seen stays-bare next.is_history
      (ap (λ (a : Account). a.granted) mine ∙ k.same_granted)
      (ap (λ (a : Account). a.refused) mine ∙ k.same_refused)
      (ap held_in_all mine ∙ (held-holding (account_of (state_after q.limits q.seen) q.worker) word inside ∙ ap (λ n. n + 1) k.same_held))

  pub keeps-release : (word : ℕ) → 0 < slice_index (account_of (state_after q.limits q.seen) q.worker).held word
      → IsNext q (Release q.worker word) after_me.0 → SeatKeeps after_me granted (held - 1) refused
  keeps-release word some_held next =
      let mine = account-release q.limits q.worker q.seen next.before next.goes_on word next.is_history in
      let less = held-releasing (account_of (state_after q.limits q.seen) q.worker) word some_held in
      keeps-part after_me (part q.limits q.worker (next.before ++ Release q.worker word ∷ [])) granted
      (held - 1) refused next.seen stays-bare next.is_history
      (ap (λ (a : Account). a.granted) mine ∙ k.same_granted)
      (ap (λ (a : Account). a.refused) mine ∙ k.same_refused)
      (omega (arith, ap held_in_all mine, less, k.same_held))

  pub keeps-look : (word found : ℕ) → IsLook q word found after_me.0 → SeatKeeps after_me granted held refused
  keeps-look word found t =
      let mine = account-look q.limits q.worker q.seen t.next.before t.next.goes_on word in
      keeps-part after_me (part q.limits q.worker
      (t.next.before ++ Look q.worker word ∷ [])) granted held refused t.next.seen stays-bare t.next.is_history
      (ap (λ (a : Account). a.granted) mine ∙ k.same_granted)
      (ap (λ (a : Account). a.refused) mine ∙ k.same_refused)
      (ap held_in_all mine ∙ k.same_held)
