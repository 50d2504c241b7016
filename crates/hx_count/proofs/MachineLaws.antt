-- What each event of the counts machine changes, and what it leaves as it was.
use Rattle.std.proofs.Common.{◌≡◌, ◌≢◌, ℕ, zero, suc, ◌+◌, ◌-◌, ◌*◌, ◌<◌, ◌≤◌, Bool, true, false, cond, List, [], ◌∷◌, ◌++◌, length}
use Rattle.std.proofs.Common.{replicate, get_or, refl, sym, ap, ◌∙◌, subst, arith, ⊎_elim, true≢false}
use Rattle.std.specs.Prelude.{slice_index}
use Rattle.std.specs.List.{sum_by, sum}
use Rattle.std.proofs.lemmas.List.{get_or_past, get_or-replicate, length-replicate}
use Rattle.std.proofs.lemmas.List.Sums.{get_or-le-sum_by, sum_by-cons}
use Rattle.std.proofs.lemmas.Bool.{cases_lt, lt-ltb, le-ltb}
use mathlib.Core.Logic.{dite}
use native.Mathlib.Decide.{ℕ_discrete, dec_lt}
use Rattle.hx_count.specs.declared.events.CountEvent.{CountEvent}
use Rattle.hx_count.specs.declared.events.TheConstants.{MOST_HELD}
use Rattle.hx_count.specs.declared.events.CountEvent.TheVariants.{Spend, Hold, Release, Look}
use Rattle.hx_count.specs.Machine.{Account, CountsState, no_account, account, counts_start, account_of, granted_to_all, refused_of_all}
use Rattle.hx_count.specs.Machine.{losses_at, held_in_all, held_by_all, HasNothing, has_units, changed_at, with_unit, with_refusal, holding}
use Rattle.hx_count.specs.Machine.{releasing, with_account, counts_step, counts_run, worker_of, IsAllowed, AreAllowed, AreBounded}
use Rattle.hx_count.specs.Machine.{IsInBudget}
use Rattle.hx_count.specs.Histories.{AreOthers, GoesOn}
use Rattle.hx_count.proofs.Changes.{length-changed, changed-here, changed-elsewhere, changed-back, sum_by-changed, sum_by-changed-le}
use Rattle.hx_count.proofs.Changes.{sum_by-unchanged}
use Rattle.hx_count.proofs.Sums.{upto, sum-upto, sum_by-same, upto-sum_by}

abbrev one_if : Bool → ℕ
one_if b = cond b 1 0

-- ---- histories in two parts

pub run-append : (state : CountsState) (events more : List CountEvent)
    → counts_run state (events ++ more) ≡ counts_run (counts_run state events) more
run-append state [] more = refl
run-append state (event ∷ events) more = run-append (counts_step state event) events more

pub allowed-append : (state : CountsState) (events more : List CountEvent) → AreAllowed state events
    → AreAllowed (counts_run state events) more → AreAllowed state (events ++ more)
allowed-append state [] more some then_more = then_more
allowed-append state (event ∷ events) more some then_more = (some.0, allowed-append (counts_step state event) events more some.1 then_more)

-- ---- what one event leaves as it was

pub step-budget : (state : CountsState) (event : CountEvent) → (counts_step state event).budget ≡ state.budget
step-budget state (Spend worker) = refl
step-budget state (Hold worker word) = refl
step-budget state (Release worker word) = refl
step-budget state (Look worker word) = refl

pub step-workers : (state : CountsState) (event : CountEvent) → length (counts_step state event).accounts ≡ length state.accounts
step-workers state (Spend worker) = length-changed (cond (has_units state) with_unit with_refusal) state.accounts worker
step-workers state (Hold worker word) = length-changed (holding word) state.accounts worker
step-workers state (Release worker word) = length-changed (releasing word) state.accounts worker
step-workers state (Look worker word) = refl

pub step-others : (state : CountsState) (event : CountEvent) (worker : ℕ) → worker_of event ≢ worker
    → account_of (counts_step state event) worker ≡ account_of state worker
step-others state (Spend other) worker apart =
    changed-elsewhere (cond (has_units state) with_unit with_refusal) state.accounts other worker no_account apart
step-others state (Hold other word) worker apart = changed-elsewhere (holding word) state.accounts other worker no_account apart
step-others state (Release other word) worker apart = changed-elsewhere (releasing word) state.accounts other worker no_account apart
step-others state (Look other word) worker apart = refl

pub run-budget : (state : CountsState) (events : List CountEvent) → (counts_run state events).budget ≡ state.budget
run-budget state [] = refl
run-budget state (event ∷ events) = run-budget (counts_step state event) events ∙ step-budget state event

pub run-workers : (state : CountsState) (events : List CountEvent) → length (counts_run state events).accounts ≡ length state.accounts
run-workers state [] = refl
run-workers state (event ∷ events) = run-workers (counts_step state event) events ∙ step-workers state event

pub run-others : (state : CountsState) (events : List CountEvent) (worker : ℕ) → AreOthers worker events
    → account_of (counts_run state events) worker ≡ account_of state worker
run-others state [] worker others = refl
run-others state (event ∷ events) worker others = run-others (counts_step state event) events worker others.1
    ∙ step-others state event worker others.0

-- what a worker has stays while the history goes on without it
pub goes_on-account : (state : CountsState) (worker : ℕ) (old new : List CountEvent) → GoesOn worker old new
    → account_of (counts_run state new) worker ≡ account_of (counts_run state old) worker
goes_on-account state worker old new on = ap (λ history. account_of (counts_run state history) worker) on.same
    ∙ (ap (λ s. account_of s worker) (run-append state old on.between) ∙ run-others (counts_run state old) on.between worker on.others)

-- ---- what one event changes

module _ (state : CountsState) (worker : ℕ) (is_worker : worker < length state.accounts) where
  pub spend-unit : has_units state ≡ true → account_of (counts_step state (Spend worker)) worker ≡ with_unit (account_of state worker)
  spend-unit units = ap (λ b. get_or (changed_at (cond b with_unit with_refusal) state.accounts worker) worker no_account) units
      ∙ changed-here with_unit state.accounts worker no_account is_worker

  pub spend-refusal : has_units state ≡ false
      → account_of (counts_step state (Spend worker)) worker ≡ with_refusal (account_of state worker)
  spend-refusal units = ap (λ b. get_or (changed_at (cond b with_unit with_refusal) state.accounts worker) worker no_account) units
      ∙ changed-here with_refusal state.accounts worker no_account is_worker

  pub hold-own : (word : ℕ) → account_of (counts_step state (Hold worker word)) worker ≡ holding word (account_of state worker)
  hold-own word = changed-here (holding word) state.accounts worker no_account is_worker

  pub release-own : (word : ℕ) → account_of (counts_step state (Release worker word)) worker ≡ releasing word (account_of state worker)
  release-own word = changed-here (releasing word) state.accounts worker no_account is_worker

  pub granted-unit : has_units state ≡ true → granted_to_all (counts_step state (Spend worker)) ≡ granted_to_all state + 1
  granted-unit units = let changed = sum_by-changed (λ (a : Account). a.granted) with_unit state.accounts worker no_account is_worker in
      ap (λ b. granted_to_all (with_account (cond b with_unit with_refusal) state worker)) units ∙ omega (arith, changed)

  pub granted-refusal : has_units state ≡ false → granted_to_all (counts_step state (Spend worker)) ≡ granted_to_all state
  granted-refusal units = ap (λ b. granted_to_all (with_account (cond b with_unit with_refusal) state worker)) units
      ∙ sum_by-unchanged (λ (a : Account). a.granted) with_refusal state.accounts worker (λ a. refl)

  pub refused-unit : has_units state ≡ true → refused_of_all (counts_step state (Spend worker)) ≡ refused_of_all state
  refused-unit units = ap (λ b. refused_of_all (with_account (cond b with_unit with_refusal) state worker)) units
      ∙ sum_by-unchanged (λ (a : Account). cond a.refused 1 0) with_unit state.accounts worker (λ a. refl)

  pub refused-refusal : has_units state ≡ false → (account_of state worker).refused ≡ false
      → refused_of_all (counts_step state (Spend worker)) ≡ refused_of_all state + 1
  refused-refusal units not_yet = let changed =
      sum_by-changed (λ (a : Account). cond a.refused 1 0) with_refusal state.accounts worker no_account is_worker in
      let none : one_if (account_of state worker).refused ≡ 0 = ap one_if not_yet in
      ap (λ b. refused_of_all (with_account (cond b with_unit with_refusal) state worker)) units ∙ omega (arith, changed, none)

spent-held : (units : Bool) (a : Account) → (cond units with_unit with_refusal a).held ≡ a.held
spent-held true a = refl
spent-held false a = refl

pub losses-spend : (state : CountsState) (worker word : ℕ) → losses_at (counts_step state (Spend worker)) word ≡ losses_at state word
losses-spend state worker word =
    sum_by-unchanged (λ (a : Account). slice_index a.held word) (cond (has_units state) with_unit with_refusal) state.accounts worker
    (λ a. ap (λ l. slice_index l word) (spent-held (has_units state) a))

pub granted-hold : (state : CountsState) (worker word : ℕ) → granted_to_all (counts_step state (Hold worker word)) ≡ granted_to_all state
granted-hold state worker word = sum_by-unchanged (λ (a : Account). a.granted) (holding word) state.accounts worker (λ a. refl)

pub refused-hold : (state : CountsState) (worker word : ℕ) → refused_of_all (counts_step state (Hold worker word)) ≡ refused_of_all state
refused-hold state worker word = sum_by-unchanged (λ (a : Account). cond a.refused 1 0) (holding word) state.accounts worker (λ a. refl)

pub granted-release : (state : CountsState) (worker word : ℕ)
    → granted_to_all (counts_step state (Release worker word)) ≡ granted_to_all state
granted-release state worker word = sum_by-unchanged (λ (a : Account). a.granted) (releasing word) state.accounts worker (λ a. refl)

pub refused-release : (state : CountsState) (worker word : ℕ)
    → refused_of_all (counts_step state (Release worker word)) ≡ refused_of_all state
refused-release state worker word =
    sum_by-unchanged (λ (a : Account). cond a.refused 1 0) (releasing word) state.accounts worker (λ a. refl)

-- ---- loss words

module _ (state : CountsState) (worker word : ℕ) (is_worker : worker < length state.accounts) where
  abbrev own_held : List ℕ
  own_held = (account_of state worker).held

  pub losses-hold_here : word < length own_held → losses_at (counts_step state (Hold worker word)) word ≡ losses_at state word + 1
  losses-hold_here inside = omega (
    arith,
    sum_by-changed (λ (a : Account). slice_index a.held word) (holding word) state.accounts worker no_account is_worker,
    changed-here (λ (n : ℕ). n + 1) own_held word 0 inside,
  )

  pub losses-hold_elsewhere : (other : ℕ) → word ≢ other → losses_at (counts_step state (Hold worker word)) other ≡ losses_at state other
  losses-hold_elsewhere other apart =
      sum_by-unchanged (λ (a : Account). slice_index a.held other) (holding word) state.accounts worker
      (λ a. changed-elsewhere (λ (n : ℕ). n + 1) a.held word other 0 apart)

  pub inside-held : 0 < slice_index own_held word → word < length own_held
  inside-held some = dite (dec_lt word (length own_held)) (λ less. less)
      (λ not_less. absurd (omega (arith, get_or_past own_held word 0 (omega arith))))

  pub losses-release_here : 0 < slice_index own_held word
      → losses_at (counts_step state (Release worker word)) word + 1 ≡ losses_at state word
  losses-release_here some = omega (
    arith,
    sum_by-changed (λ (a : Account). slice_index a.held word) (releasing word) state.accounts worker no_account is_worker,
    changed-here (λ (n : ℕ). n - 1) own_held word 0 (inside-held some),
  )

  pub losses-release_elsewhere : (other : ℕ) → word ≢ other
      → losses_at (counts_step state (Release worker word)) other ≡ losses_at state other
  losses-release_elsewhere other apart =
      sum_by-unchanged (λ (a : Account). slice_index a.held other) (releasing word) state.accounts worker
      (λ a. changed-elsewhere (λ (n : ℕ). n - 1) a.held word other 0 apart)

-- ---- what one worker holds in all

pub held-holding : (a : Account) (word : ℕ) → word < length a.held → held_in_all (holding word a) ≡ held_in_all a + 1
held-holding a word inside = omega (arith, sum_by-changed (λ (n : ℕ). n) (λ n. n + 1) a.held word 0 inside)

pub held-releasing : (a : Account) (word : ℕ) → 0 < slice_index a.held word → held_in_all (releasing word a) + 1 ≡ held_in_all a
held-releasing a word some =
    let inside : word < length a.held =
    dite (dec_lt word (length a.held)) (λ less. less) (λ not_less. absurd (omega (arith, get_or_past a.held word 0 (omega arith)))) in
    omega (arith, sum_by-changed (λ (n : ℕ). n) (λ n. n - 1) a.held word 0 inside)

pub held-holding-le : (word : ℕ) (a : Account) → held_in_all (holding word a) ≤ held_in_all a + 1
held-holding-le word a = sum_by-changed-le (λ (n : ℕ). n) (λ n. n + 1) 1 (λ n. omega arith) a.held word

-- a release takes back a hold
pub releasing-held : (word : ℕ) (a later : Account) → later.held ≡ (holding word a).held → (releasing word later).held ≡ a.held
releasing-held word a later same = ap (λ held. changed_at (λ (n : ℕ). n - 1) held word) same
    ∙ changed-back (λ (n : ℕ). n + 1) (λ n. n - 1) (λ n. omega arith) a.held word

pub releasing-holding : (word : ℕ) (a : Account) → releasing word (holding word a) ≡ a
releasing-holding word a = ap (λ held. account a.granted a.refused held) (releasing-held word a (holding word a) refl)

-- a change of one account keeps the bounds where the changed account has them
bounded-step : (words : ℕ) (state : CountsState) (event : CountEvent) → AreBounded words state → worker_of event < length state.accounts
    → length (account_of (counts_step state event) (worker_of event)).held ≡ words
    → held_in_all (account_of (counts_step state event) (worker_of event)) ≤ MOST_HELD
    → AreBounded words (counts_step state event)
bounded-step words state event bounded is_worker long few = record {
  long = λ worker less. dite (ℕ_discrete (worker_of event) worker)
      (λ same. subst (λ w. length (account_of (counts_step state event) w).held ≡ words) same long)
      (λ apart. ap (λ a. length a.held) (step-others state event worker apart)
      ∙ bounded.long worker (omega (arith, step-workers state event)));
  few = λ worker. dite (ℕ_discrete (worker_of event) worker)
      (λ same. subst (λ w. held_in_all (account_of (counts_step state event) w) ≤ MOST_HELD) same few)
      (λ apart. subst (λ a. held_in_all a ≤ MOST_HELD) (sym (step-others state event worker apart)) (bounded.few worker));
}

pub bounded-allowed : (words : ℕ) (state : CountsState) (event : CountEvent) → AreBounded words state → IsAllowed state event
    → AreBounded words (counts_step state event)
bounded-allowed words state (Spend worker) bounded allowed =
    let own : account_of (counts_step state (Spend worker)) worker ≡ cond (has_units state) with_unit with_refusal
    (account_of state worker) =
    changed-here (cond (has_units state) with_unit with_refusal) state.accounts worker no_account allowed.0 in
    let same : (account_of (counts_step state (Spend worker)) worker).held ≡ (account_of state worker).held = ap (λ a. a.held) own
    ∙ spent-held (has_units state) (account_of state worker) in
    bounded-step words state (Spend worker) bounded allowed.0 (ap length same ∙ bounded.long worker allowed.0)
    (subst (λ l. sum l ≤ MOST_HELD) (sym same) (bounded.few worker))
bounded-allowed words state (Hold worker word) bounded allowed =
    let own = hold-own state worker allowed.0 word in let a = account_of state worker in
    bounded-step words state (Hold worker word) bounded allowed.0
    (ap (λ b. length b.held) own ∙ (length-changed (λ (n : ℕ). n + 1) a.held word ∙ bounded.long worker allowed.0))
    (subst (λ b. held_in_all b ≤ MOST_HELD) (sym own) (omega (arith, held-holding a word allowed.1.0, allowed.1.1)))
bounded-allowed words state (Release worker word) bounded allowed =
    let own = release-own state worker allowed.0 word in let a = account_of state worker in
    bounded-step words state (Release worker word) bounded allowed.0
    (ap (λ b. length b.held) own ∙ (length-changed (λ (n : ℕ). n - 1) a.held word ∙ bounded.long worker allowed.0))
    (subst (λ b. held_in_all b ≤ MOST_HELD) (sym own) (omega (arith, held-releasing a word allowed.1, bounded.few worker)))
bounded-allowed words state (Look worker word) bounded allowed = bounded

bounded-run : (words : ℕ) (state : CountsState) (events : List CountEvent) → AreBounded words state → AreAllowed state events
    → AreBounded words (counts_run state events)
bounded-run words state [] bounded allowed = bounded
bounded-run words state (event ∷ events) bounded allowed =
    bounded-run words (counts_step state event) events (bounded-allowed words state event bounded allowed.0) allowed.1

-- ---- the start

sum-zeros : (count : ℕ) → sum (replicate count 0) ≡ 0
sum-zeros zero = refl
sum-zeros (suc count) = sum-zeros count

pub index-zeros : (count place : ℕ) → slice_index (replicate count 0) place ≡ 0
index-zeros zero place = refl
index-zeros (suc count) zero = refl
index-zeros (suc count) (suc place) = index-zeros count place

sum_by-copies : {A : Type 0} → (f : A → ℕ) (count : ℕ) (x : A) → f x ≡ 0 → sum_by f (replicate count x) ≡ 0
sum_by-copies f zero x none = refl
sum_by-copies f (suc count) x none = omega (arith, sum_by-cons f x (replicate count x), none, sum_by-copies f count x none)

pub get-copies : {A : Type 0} → (P : A → Type 0) (count : ℕ) (x d : A) (place : ℕ) → P x → P d → P (get_or (replicate count x) place d)
get-copies P zero x d place at_x at_d = at_d
get-copies P (suc count) x d zero at_x at_d = at_x
get-copies P (suc count) x d (suc place) at_x at_d = get-copies P count x d place at_x at_d

pub start-nothing : (budget words workers worker : ℕ) → HasNothing (account_of (counts_start budget words workers) worker)
start-nothing budget words workers worker =
    get-copies HasNothing workers (account 0 false (replicate words 0)) no_account worker
    (record { granted = refl; refused = refl; held = sum-zeros words }) (record { granted = refl; refused = refl; held = refl })

pub start-bounded : (budget words workers : ℕ) → AreBounded words (counts_start budget words workers)
start-bounded budget words workers = record {
  long = λ worker less.
      ap (λ a. length a.held)
      (get_or-replicate workers worker (account 0 false (replicate words 0)) no_account
      (omega (arith, length-replicate workers (account 0 false (replicate words 0))))) ∙ length-replicate words 0;
  few = λ worker. omega (arith, (start-nothing budget words workers worker).held);
}

pub start-granted : (budget words workers : ℕ) → granted_to_all (counts_start budget words workers) ≡ 0
start-granted budget words workers = sum_by-copies (λ (a : Account). a.granted) workers (account 0 false (replicate words 0)) refl

pub start-refused : (budget words workers : ℕ) → refused_of_all (counts_start budget words workers) ≡ 0
start-refused budget words workers = sum_by-copies (λ (a : Account). cond a.refused 1 0) workers (account 0 false (replicate words 0)) refl

pub start-losses : (budget words workers word : ℕ) → losses_at (counts_start budget words workers) word ≡ 0
start-losses budget words workers word =
    sum_by-copies (λ (a : Account). slice_index a.held word) workers (account 0 false (replicate words 0)) (index-zeros words word)

-- after a history from the start each worker has a number for each loss word, and holds no more than it may
pub history-bounded : (budget words workers : ℕ) (history : List CountEvent) → AreAllowed (counts_start budget words workers) history
    → AreBounded words (counts_run (counts_start budget words workers) history)
history-bounded budget words workers history allowed =
    bounded-run words (counts_start budget words workers) history (start-bounded budget words workers) allowed

pub history-workers : (budget words workers : ℕ) (history : List CountEvent)
    → length (counts_run (counts_start budget words workers) history).accounts ≡ workers
history-workers budget words workers history = run-workers (counts_start budget words workers) history
    ∙ length-replicate workers (account 0 false (replicate words 0))

-- ---- bounds of sums

-- what is held of one word is no more than what is held in all
pub index-le-sum : (xs : List ℕ) (place : ℕ) → slice_index xs place ≤ sum xs
index-le-sum xs place =
    dite (dec_lt place (length xs)) (λ less. get_or-le-sum_by (λ x. x) xs place 0 less)
    (λ not_less. omega (arith, get_or_past xs place 0 (omega arith)))

sum_by-bounded : {A : Type 0} → (f : A → ℕ) (most : ℕ) (xs : List A) (d : A) → ((k : ℕ) → k < length xs → f (get_or xs k d) ≤ most)
    → sum_by f xs ≤ length xs * most
sum_by-bounded f most [] d bound = omega arith
sum_by-bounded f most (x ∷ xs) d bound =
    omega (arith, sum_by-cons f x xs, bound 0 (omega arith), sum_by-bounded f most xs d (λ k less. bound (suc k) (omega arith)))

pub losses-le : (words : ℕ) (state : CountsState) (word : ℕ) → AreBounded words state
    → losses_at state word ≤ length state.accounts * MOST_HELD
losses-le words state word bounded = sum_by-bounded (λ (a : Account). slice_index a.held word) MOST_HELD state.accounts no_account
    (λ k less. omega (arith, index-le-sum (account_of state k).held word, bounded.few k))

pub held-le : (words : ℕ) (state : CountsState) → AreBounded words state → held_by_all state ≤ length state.accounts * MOST_HELD
held-le words state bounded = sum_by-bounded held_in_all MOST_HELD state.accounts no_account (λ k less. bounded.few k)

one_at_most : (b : Bool) → cond b 1 0 ≤ 1
one_at_most true = omega arith
one_at_most false = omega arith

pub refused-le : (state : CountsState) → refused_of_all state ≤ length state.accounts
refused-le state = omega (
  arith,
  sum_by-bounded (λ (a : Account). cond a.refused 1 0) 1 state.accounts no_account
      (λ k less. one_at_most (account_of state k).refused),
)

-- a worker's own number of a loss word is part of the sum
pub losses-own : (state : CountsState) (worker word : ℕ) → slice_index (account_of state worker).held word ≤ losses_at state word
losses-own state worker word = dite (dec_lt worker (length state.accounts))
    (λ less. get_or-le-sum_by (λ (a : Account). slice_index a.held word) state.accounts worker no_account less)
    (λ not_less. omega (arith, ap (λ (a : Account). slice_index a.held word) (get_or_past state.accounts worker no_account (omega arith))))

pub granted-own : (state : CountsState) (worker : ℕ) → (account_of state worker).granted ≤ granted_to_all state
granted-own state worker = dite (dec_lt worker (length state.accounts))
    (λ less. get_or-le-sum_by (λ (a : Account). a.granted) state.accounts worker no_account less)
    (λ not_less. omega (arith, ap (λ (a : Account). a.granted) (get_or_past state.accounts worker no_account (omega arith))))

-- where a worker was refused, some worker was
pub refused-own : (state : CountsState) (worker : ℕ) → (account_of state worker).refused ≡ true → 0 < refused_of_all state
refused-own state worker refused = dite (dec_lt worker (length state.accounts))
    (λ less. omega (arith, get_or-le-sum_by (λ (a : Account). one_if a.refused) state.accounts worker no_account less, ap one_if refused))
    (λ not_less. absurd (true≢false
    (sym refused ∙ ap (λ (a : Account). a.refused) (get_or_past state.accounts worker no_account (omega arith)))))

-- the loss words' sums make together what is held in all
pub held-losses : (words : ℕ) (state : CountsState) → AreBounded words state → upto words (λ word. losses_at state word) ≡ held_by_all state
held-losses words state bounded = upto-sum_by words (λ word (a : Account). slice_index a.held word) state.accounts
    ∙ sum_by-same (λ (a : Account). upto words (λ word. slice_index a.held word)) held_in_all state.accounts no_account
    (λ k less. sym (sum-upto (account_of state k).held
    ∙ ap (λ n. upto n (λ word. slice_index (account_of state k).held word)) (bounded.long k less)))

-- ---- how many units are granted

in-budget-spend : (state : CountsState) (worker : ℕ) → worker < length state.accounts → IsInBudget state
    → IsInBudget (counts_step state (Spend worker))
in-budget-spend state worker is_worker is = ⊎_elim
    (λ (room : granted_to_all state < state.budget).
    let units : has_units state ≡ true = lt-ltb (granted_to_all state) state.budget room in
    let more = granted-unit state worker is_worker units in record {
      within = omega (arith, more, room);
      full = λ some. absurd (omega (arith, some, is.full (omega (arith, some, refused-unit state worker is_worker units)), room));
    })
    (λ (none : state.budget ≤ granted_to_all state).
    let units : has_units state ≡ false = le-ltb (granted_to_all state) state.budget none in
    let same = granted-refusal state worker is_worker units in record {
      within = omega (arith, same, is.within);
      full = λ some. omega (arith, same, none, is.within);
    })
    (cases_lt (granted_to_all state) state.budget)

pub in-budget-step : (state : CountsState) (event : CountEvent) → worker_of event < length state.accounts → IsInBudget state
    → IsInBudget (counts_step state event)
in-budget-step state (Spend worker) is_worker is = in-budget-spend state worker is_worker is
in-budget-step state (Hold worker word) is_worker is = record {
  within = omega (arith, granted-hold state worker word, is.within);
  full = λ some. omega (arith, granted-hold state worker word, is.full (omega (arith, some, refused-hold state worker word)));
}
in-budget-step state (Release worker word) is_worker is = record {
  within = omega (arith, granted-release state worker word, is.within);
  full = λ some. omega (arith, granted-release state worker word, is.full (omega (arith, some, refused-release state worker word)));
}
in-budget-step state (Look worker word) is_worker is = is

pub in-budget-run : (state : CountsState) (events : List CountEvent) → AreAllowed state events → IsInBudget state
    → IsInBudget (counts_run state events)
in-budget-run state [] allowed is = is
in-budget-run state (event ∷ events) allowed is =
    in-budget-run (counts_step state event) events allowed.1 (in-budget-step state event allowed.0.0 is)

pub start-in_budget : (budget words workers : ℕ) → IsInBudget (counts_start budget words workers)
start-in_budget budget words workers = record {
  within = omega (arith, start-granted budget words workers);
  full = λ some. absurd (omega (arith, some, start-refused budget words workers));
}

pub history-in_budget : (budget words workers : ℕ) (history : List CountEvent) → AreAllowed (counts_start budget words workers) history
    → IsInBudget (counts_run (counts_start budget words workers) history)
history-in_budget budget words workers history allowed =
    in-budget-run (counts_start budget words workers) history allowed (start-in_budget budget words workers)
