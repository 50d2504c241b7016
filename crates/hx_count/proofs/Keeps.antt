-- Each step of the counts keeps their rule.
use Rattle.std.proofs.Common.{◌≡◌, ◌≢◌, ℕ, ◌+◌, ◌-◌, ◌%◌, ◌^◌, ◌<◌, ◌≤◌, true, false, List, [], ◌∷◌, ◌++◌, length, get_or, set, min, refl}
use Rattle.std.proofs.Common.{sym, ap, ◌∙◌, subst, ⊎_elim, arith, length-set, get_or-set_same, get_or-set_other}
use Rattle.std.specs.Prelude.{slice_index}
use Rattle.std.specs.List.{sum_by}
use Rattle.std.proofs.lemmas.List.Sums.{sum_by-cons, sum_by-append}
use Rattle.std.proofs.lemmas.Bool.{cases_lt, cases_eq, lt-ltb, le-ltb}
use mathlib.Core.Option.{none, some, some-ne-none}
use native.Mathlib.Decide.{dec_lt}
use mathlib.Core.Logic.{dite}
use lib.ListN.{get_elem?}
use Rattle.atomic_table.specs.Table.{State, step, keeps, opening, Allows, Splits, Joins}
use Rattle.atomic_table.proofs.Lists.{at_set, at_snoc, set_else}
use Rattle.hx_count.specs.declared.events.CountEvent.{CountEvent}
use Rattle.hx_count.specs.declared.events.TheConstants.{MOST_HELD}
use Rattle.hx_count.specs.declared.events.CountEvent.TheVariants.{Spend, Hold, Release, Look}
use Rattle.hx_count.specs.declared.views.Limits.{Limits}
use Rattle.hx_count.specs.declared.views.Part.{Part}
use Rattle.hx_count.specs.declared.views.View.{View}
use Rattle.hx_count.specs.Machine.{CountsState, Account, account_of, granted_to_all, refused_of_all, losses_at, held_in_all, has_units}
use Rattle.hx_count.specs.Machine.{counts_step, worker_of, IsAllowed}
use Rattle.hx_count.specs.Counted.{start_of, state_after, IsHistory, part, view, times_in, IsCurrent, AreCurrent, AreCurrentParts, Counted, Seated}
use Rattle.hx_count.specs.Counted.{IsNext, IsSpend, IsLook, spends, holds, releases, looks, all_but_first, only_first, joined, no_parts}
use Rattle.hx_count.specs.Counted.{first_view, new_parts, AreSmall}
use Rattle.hx_count.proofs.MachineLaws.{run-append, allowed-append, run-budget, goes_on-account, granted-unit, granted-refusal}
use Rattle.hx_count.proofs.MachineLaws.{refused-unit, refused-refusal, losses-spend, granted-hold, refused-hold, granted-release}
use Rattle.hx_count.proofs.MachineLaws.{refused-release, losses-hold_here, losses-hold_elsewhere, losses-release_here}
use Rattle.hx_count.proofs.MachineLaws.{losses-release_elsewhere, history-bounded, history-workers, losses-le, losses-own, refused-le}
use Rattle.hx_count.proofs.MachineLaws.{start-granted, start-refused, start-losses}
use Rattle.hx_count.proofs.Terms.{sum-set, term-le, others-none}
use Rattle.hx_count.proofs.PartLaws.{times-single, times-append, times-cut, current-append, current-first, current-rest, goes_on-now}
use Rattle.hx_count.proofs.PartLaws.{current-more, times-among, times-after, current-new}
use Rattle.hx_count.proofs.Workers.{same-one}

abbrev Words : Type 0
Words = State (Unit {0}) View

-- the history is one event longer, and the machine one step further
after-more : (limits : Limits) (history : List CountEvent) (event : CountEvent)
    → state_after limits (history ++ event ∷ []) ≡ counts_step (state_after limits history) event
after-more limits history event = run-append (start_of limits) history (event ∷ [])

more-history : (limits : Limits) (history : List CountEvent) (event : CountEvent) → IsHistory limits history
    → IsAllowed (state_after limits history) event → IsHistory limits (history ++ event ∷ [])
more-history limits history event is allowed = allowed-append (start_of limits) history (event ∷ []) is (allowed, tt)

after-budget : (limits : Limits) (history : List CountEvent) → (state_after limits history).budget ≡ limits.budget
after-budget limits history = run-budget (start_of limits) history

-- ---- one seat's step

module _ (limits : Limits) (s : Words) (c : Counted limits s) (id : ℕ) (p : Part)
    (there : get_elem? s.views id ≡ some (view (p ∷ []))) where
  abbrev now : CountsState
  now = state_after limits c.history

  abbrev named : ℕ → View → ℕ
  named worker v = times_in worker v.parts

  own-once : named p.worker (view (p ∷ [])) ≡ 1
  own-once = times-single p.worker p ∙ same-one p.worker p.worker refl

  pub is-worker : p.worker < limits.workers
  is-worker = dite (dec_lt p.worker limits.workers) (λ less. less)
      (λ not_less. absurd (omega
      (arith, c.never p.worker (omega arith), term-le (named p.worker) s.views id (view (p ∷ [])) there, own-once)))

  pub is-of_now : p.worker < length now.accounts
  is-of_now = omega (arith, is-worker, history-workers limits.budget limits.words limits.workers c.history)

  own-current : IsCurrent limits c.history p
  own-current = (c.current id (view (p ∷ [])) there).0

  pub same-limits : p.limits ≡ limits
  same-limits = own-current.same_limits

  -- what the worker has now is what it had when it last looked
  pub same-account : account_of now p.worker ≡ account_of (state_after p.limits p.seen) p.worker
  same-account = goes_on-account (start_of limits) p.worker p.seen c.history own-current.goes_on
      ∙ ap (λ (l : Limits). account_of (state_after l p.seen) p.worker) (sym same-limits)

  module _ (event : CountEvent) (own : worker_of event ≡ p.worker) where
    abbrev longer : List CountEvent
    longer = c.history ++ event ∷ []

    abbrev seen_more : View
    seen_more = view (part p.limits p.worker longer ∷ [])

    current-others : (other : ℕ) (u : View) → other ≢ id → get_elem? s.views other ≡ some u → AreCurrentParts limits longer u.parts
    current-others other u apart also = current-more limits c.history event u.parts
        (ap (λ worker. times_in worker u.parts) own
        ∙ others-none (named p.worker) s.views id other (view (p ∷ [])) u no_parts refl
        (omega (arith, c.once p.worker is-worker)) own-once apart there also)
        (c.current other u also)

    same-sum : (worker : ℕ) → sum_by (named worker) (set s.views id seen_more) ≡ sum_by (named worker) s.views
    same-sum worker = omega (
      arith,
      sum-set (named worker) s.views id (view (p ∷ [])) seen_more there,
      times-single worker p,
      times-single worker (part p.limits p.worker longer),
    )

    -- the event is the next one of the history, and one word changes so that the words agree with it
    pub counted-more : (word n : ℕ) → IsAllowed now event
        → slice_index (set s.words word n) 0 ≡ granted_to_all (counts_step now event) + refused_of_all (counts_step now event)
        → granted_to_all (counts_step now event) ≡ min (slice_index (set s.words word n) 0) limits.budget
        → ((k : ℕ) → k < limits.words → slice_index (set s.words word n) (k + 1) ≡ losses_at (counts_step now event) k)
        → Counted limits (record { words = set s.words word n; homes = s.homes; views = set s.views id seen_more })
    counted-more word n allowed spent granted losses = record {
      history = longer;
      is_history = more-history limits c.history event c.is_history allowed;
      small = c.small;
      wide = length-set s.words word n ∙ c.wide;
      spent = rw (after-more limits c.history event) spent;
      granted = rw (after-more limits c.history event) granted;
      losses = λ k inside. losses k inside ∙ ap (λ (state : CountsState). losses_at state k) (sym (after-more limits c.history event));
      once = λ worker inside. same-sum worker ∙ c.once worker inside;
      never = λ worker far. same-sum worker ∙ c.never worker far;
      current = λ other u at. ⊎_elim
          (λ (t : (other ≡ id) × (seen_more ≡ u)).
          subst (λ (v : View). AreCurrentParts limits longer v.parts) t.1
          (record { same_limits = same-limits; goes_on = goes_on-now p.worker longer }, tt))
          (λ (t : (other ≢ id) × (get_elem? s.views other ≡ some u)). current-others other u t.0 t.1)
          (at_set s.views id other seen_more u at);
    }

    pub next : IsAllowed now event → IsNext p event seen_more
    next allowed = record {
      before = c.history;
      goes_on = own-current.goes_on;
      is_history = subst (λ (l : Limits). IsHistory l longer) (sym same-limits) (more-history limits c.history event c.is_history allowed);
      seen = refl;
    }

-- the first of two equal lists of one part
first-same : (p q : Part) → p ∷ [] ≡ q ∷ [] → p ≡ q
first-same p q same = ap (λ (parts : List Part). get_or parts 0 p) same

-- the number of a word of two steps
same-word : (word other : ℕ) → word + 1 ≡ other + 1 → word ≡ other
same-word word other same = omega arith

module _ (limits : Limits) (slots id : ℕ) (p : Part) where
  abbrev me : Seated
  me = (view (p ∷ []), [])

  -- ---- a spend

  module _ (not_yet : (account_of (state_after p.limits p.seen) p.worker).refused ≡ false) (s : Words) (c : Counted limits s)
      (there : get_elem? s.views id ≡ some (view (p ∷ []))) where
    abbrev before : CountsState
    before = state_after limits c.history

    abbrev found : ℕ
    found = get_or s.words 0 0

    abbrev spend : CountEvent
    spend = Spend p.worker

    spend-allowed : IsAllowed before spend
    spend-allowed = (is-of_now limits s c id p there, tt)

    still-not : (account_of before p.worker).refused ≡ false
    still-not = ap (λ (a : Account). a.refused) (same-account limits s c id p there) ∙ not_yet

    few-spends : found < 1099511627841
    few-spends = let small = c.small in
        omega (
          arith,
          small.budget,
          small.workers,
          c.spent,
          c.granted,
          refused-le before,
          history-workers limits.budget limits.words limits.workers c.history,
        )

    word-zero : slice_index (set s.words 0 (found + 1)) 0 ≡ found + 1
    word-zero = get_or-set_same s.words 0 (found + 1) 0 (omega (arith, c.wide))

    other-words : (k : ℕ) → k < limits.words → slice_index (set s.words 0 (found + 1)) (k + 1) ≡ losses_at (counts_step before spend) k
    other-words k inside = get_or-set_other s.words 0 (k + 1) (found + 1) 0 (λ same. omega arith)
        ∙ (c.losses k inside ∙ sym (losses-spend before p.worker k))

    spend-counted : Counted limits
        (record { words = set s.words 0 (found + 1); homes = s.homes; views = set s.views id (seen_more limits s c id p there spend refl) })
    spend-counted = ⊎_elim
        (λ (room : granted_to_all before < limits.budget).
        let units : has_units before ≡ true =
        lt-ltb (granted_to_all before) (before.budget) (omega (arith, room, after-budget limits c.history)) in
        counted-more limits s c id p there spend refl 0 (found + 1) spend-allowed
        (omega (
          arith,
          word-zero,
          c.spent,
          granted-unit before p.worker (is-of_now limits s c id p there) units,
          refused-unit before p.worker (is-of_now limits s c id p there) units,
        ))
        (omega (arith, word-zero, room, c.granted, granted-unit before p.worker (is-of_now limits s c id p there) units))
        other-words)
        (λ (full : limits.budget ≤ granted_to_all before).
        let units : has_units before ≡ false =
        le-ltb (granted_to_all before) (before.budget) (omega (arith, full, after-budget limits c.history)) in
        counted-more limits s c id p there spend refl 0 (found + 1) spend-allowed
        (omega (
          arith,
          word-zero,
          c.spent,
          granted-refusal before p.worker (is-of_now limits s c id p there) units,
          refused-refusal before p.worker (is-of_now limits s c id p there) units still-not,
        ))
        (omega (arith, word-zero, full, c.granted, granted-refusal before p.worker (is-of_now limits s c id p there) units))
        other-words)
        (cases_lt (granted_to_all before) limits.budget)

    spend-told : IsSpend p found (seen_more limits s c id p there spend refl)
    unfolding next
    spend-told = record {
      next = next limits s c id p there spend refl spend-allowed;
      granted = subst (λ (l : Limits). granted_to_all (state_after l c.history) ≡ min found l.budget)
          (sym (same-limits limits s c id p there)) c.granted;
    }

  pub spends-keep : (account_of (state_after p.limits p.seen) p.worker).refused ≡ false
      → Allows (Counted limits) slots id me 0 (λ n. (n + 1) % 2 ^ 64) (spends (step slots 0 1 0 none) me)
  spends-keep not_yet s c _ there _ =
      let n : ℕ = get_or s.words 0 0 in
      let few = few-spends not_yet s c there in
      let one : (n + 1) % 2 ^ 64 ≡ n + 1 = omega (arith, few) in
      let w = seen_more limits s c id p there (Spend p.worker) refl in (
        w,
        keeps,
        tt,
        subst (λ (x : ℕ). Counted limits (record { words = set s.words 0 x; homes = s.homes; views = set s.views id w })) (sym one)
            (spend-counted not_yet s c there),
        (refl, λ q same. subst (λ (r : Part). IsSpend r n w) (first-same p q same) (spend-told not_yet s c there)),
      )

  -- ---- a hold and a release

  module _ (word : ℕ) (inside : word < limits.words) (s : Words) (c : Counted limits s)
      (there : get_elem? s.views id ≡ some (view (p ∷ []))) where
    abbrev state : CountsState
    state = state_after limits c.history

    abbrev number : ℕ
    number = get_or s.words (word + 1) 0

    abbrev worker : ℕ
    worker = p.worker

    of_now : worker < length state.accounts
    of_now = is-of_now limits s c id p there

    as-before : account_of state worker ≡ account_of (state_after p.limits p.seen) worker
    as-before = same-account limits s c id p there

    long : length (account_of state worker).held ≡ limits.words
    long = (history-bounded limits.budget limits.words limits.workers c.history c.is_history).long worker of_now

    few-losses : number ≤ 65536
    few-losses = let small = c.small in omega (
      arith,
      small.workers,
      c.losses word inside,
      losses-le limits.words state word (history-bounded limits.budget limits.words limits.workers c.history c.is_history),
      history-workers limits.budget limits.words limits.workers c.history,
    )

    word-here : (n : ℕ) → slice_index (set s.words (word + 1) n) (word + 1) ≡ n
    word-here n = get_or-set_same s.words (word + 1) n 0 (omega (arith, c.wide))

    word-zero_kept : (n : ℕ) → slice_index (set s.words (word + 1) n) 0 ≡ slice_index s.words 0
    word-zero_kept n = get_or-set_other s.words (word + 1) 0 n 0 (λ same. omega arith)

    -- the words agree with the machine after a step that changes this loss word alone
    losses-more : (n : ℕ) (event : CountEvent) → n ≡ losses_at (counts_step state event) word
        → ((other : ℕ) → word ≢ other → losses_at (counts_step state event) other ≡ losses_at state other)
        → (k : ℕ) → k < limits.words → slice_index (set s.words (word + 1) n) (k + 1) ≡ losses_at (counts_step state event) k
    losses-more n event here elsewhere k below = ⊎_elim
        (λ (same : word ≡ k).
        subst (λ (o : ℕ). slice_index (set s.words (word + 1) n) (o + 1) ≡ losses_at (counts_step state event) o) same
        (word-here n ∙ here))
        (λ (apart : word ≢ k). get_or-set_other s.words (word + 1) (k + 1) n 0 (λ same. apart (omega arith))
        ∙ (c.losses k below ∙ sym (elsewhere k apart)))
        (cases_eq word k)

    module _ (room : held_in_all (account_of (state_after p.limits p.seen) p.worker) < MOST_HELD) where
      hold-allowed : IsAllowed state (Hold worker word)
      hold-allowed = (of_now, (omega (arith, long, inside), omega (arith, room, ap held_in_all as-before)))

      hold-counted : Counted limits
          (record {
            words = set s.words (word + 1) (number + 1);
            homes = s.homes;
            views =
                set s.views id (seen_more limits s c id p there (Hold p.worker word) refl);
          })
      hold-counted = counted-more limits s c id p there (Hold p.worker word) refl (word + 1) (number + 1) hold-allowed
          (omega (arith, word-zero_kept (number + 1), c.spent, granted-hold state worker word, refused-hold state worker word))
          (omega (arith, word-zero_kept (number + 1), c.granted, granted-hold state worker word))
          (losses-more (number + 1) (Hold worker word)
          (omega (arith, c.losses word inside, losses-hold_here state worker word of_now (omega (arith, long, inside))))
          (λ other apart. losses-hold_elsewhere state worker word of_now other apart))

      hold-next : IsNext p (Hold p.worker word) (seen_more limits s c id p there (Hold p.worker word) refl)
      hold-next = next limits s c id p there (Hold p.worker word) refl hold-allowed

    module _ (some_held : 0 < slice_index (account_of (state_after p.limits p.seen) p.worker).held word) where
      holds-some : 0 < slice_index (account_of state worker).held word
      holds-some = omega (arith, some_held, ap (λ (a : Account). slice_index a.held word) as-before)

      release-allowed : IsAllowed state (Release worker word)
      release-allowed = (of_now, holds-some)

      -- the word is at least what this worker holds
      some-losses : 0 < number
      some-losses = omega (arith, c.losses word inside, losses-own state worker word, holds-some)

      release-counted : Counted limits
          (record {
            words = set s.words (word + 1) (number - 1);
            homes = s.homes;
            views =
                set s.views id (seen_more limits s c id p there (Release p.worker word) refl);
          })
      release-counted = counted-more limits s c id p there (Release p.worker word) refl (word + 1) (number - 1) release-allowed
          (omega (arith, word-zero_kept (number - 1), c.spent, granted-release state worker word, refused-release state worker word))
          (omega (arith, word-zero_kept (number - 1), c.granted, granted-release state worker word))
          (losses-more (number - 1) (Release worker word)
          (omega (arith, c.losses word inside, losses-release_here state worker word of_now holds-some))
          (λ other apart. losses-release_elsewhere state worker word of_now other apart))

      release-next : IsNext p (Release p.worker word) (seen_more limits s c id p there (Release p.worker word) refl)
      release-next = next limits s c id p there (Release p.worker word) refl release-allowed

    -- ---- a look

    look-allowed : IsAllowed state (Look worker word)
    look-allowed = (of_now, omega (arith, long, inside))

    look-counted : Counted limits
        (record {
          words = set s.words (word + 1) number;
          homes = s.homes;
          views =
              set s.views id (seen_more limits s c id p there (Look p.worker word) refl);
        })
    look-counted = counted-more limits s c id p there (Look p.worker word) refl (word + 1) number look-allowed
        (word-zero_kept number ∙ c.spent)
        (c.granted ∙ ap (λ n. min n limits.budget) (sym (word-zero_kept number)))
        (losses-more number (Look worker word) (c.losses word inside) (λ other apart. refl))

    look-told : IsLook p word number (seen_more limits s c id p there (Look p.worker word) refl)
    unfolding next
    look-told = record {
      next = next limits s c id p there (Look p.worker word) refl look-allowed;
      losses = c.losses word inside
          ∙ ap (λ (l : Limits). losses_at (state_after l c.history) word) (sym (same-limits limits s c id p there));
    }

  pub holds-keep : (word : ℕ) → word < limits.words → held_in_all (account_of (state_after p.limits p.seen) p.worker) < MOST_HELD
      → Allows (Counted limits) slots id me (word + 1) (λ n. (n + 1) % 2 ^ 64) (holds (step slots (word + 1) 1 0 none) me)
  holds-keep word inside room s c _ there _ =
      let n : ℕ = get_or s.words (word + 1) 0 in
      let few = few-losses word inside s c there in
      let one : (n + 1) % 2 ^ 64 ≡ n + 1 = omega (arith, few) in
      let w = seen_more limits s c id p there (Hold p.worker word) refl in (
        w,
        keeps,
        tt,
        subst (λ (x : ℕ). Counted limits (record { words = set s.words (word + 1) x; homes = s.homes; views = set s.views id w })) (sym one)
            (hold-counted word inside s c there room),
        (
          refl,
          λ q other same at.
              subst (λ (r : Part). IsNext r (Hold r.worker other) w) (first-same p q same)
              (subst (λ (k : ℕ). IsNext p (Hold p.worker k) w) (same-word word other at) (hold-next word inside s c there room)),
        ),
      )

  pub releases-keep : (word : ℕ) → word < limits.words → 0 < slice_index (account_of (state_after p.limits p.seen) p.worker).held word
      → Allows (Counted limits) slots id me (word + 1) (λ n. (n + (2 ^ 64 - 1)) % 2 ^ 64) (releases (step slots (word + 1) 1 0 none) me)
  releases-keep word inside some_held s c _ there _ =
      let n : ℕ = get_or s.words (word + 1) 0 in
      let few = few-losses word inside s c there in
      let more = some-losses word inside s c there some_held in
      let one : (n + 18446744073709551615) % 18446744073709551616 ≡ n - 1 = omega (arith, few, more) in
      let w = seen_more limits s c id p there (Release p.worker word) refl in (
        w,
        keeps,
        tt,
        subst (λ (x : ℕ). Counted limits (record { words = set s.words (word + 1) x; homes = s.homes; views = set s.views id w })) (sym one)
            (release-counted word inside s c there some_held),
        (
          refl,
          λ q other same at.
              subst (λ (r : Part). IsNext r (Release r.worker other) w) (first-same p q same)
              (subst (λ (k : ℕ). IsNext p (Release p.worker k) w) (same-word word other at)
              (release-next word inside s c there some_held)),
        ),
      )

  pub looks-keep : (word : ℕ) → word < limits.words
      → Allows (Counted limits) slots id me (word + 1) (λ n. n) (looks (step slots (word + 1) 0 0 none) me)
  looks-keep word inside s c _ there _ =
      let n : ℕ = get_or s.words (word + 1) 0 in
      let w = seen_more limits s c id p there (Look p.worker word) refl in (
        w,
        keeps,
        tt,
        look-counted word inside s c there,
        (
          refl,
          λ q other same at.
              subst (λ (r : Part). IsLook r other n w) (first-same p q same)
              (subst (λ (k : ℕ). IsLook p k n w) (same-word word other at) (look-told word inside s c there)),
        ),
      )

-- ---- seats that are dealt and gathered

-- The views change, of each worker as many parts stay, and each is current.
views-keep : (limits : Limits) (s : Words) (views : List View) (c : Counted limits s)
    → ((worker : ℕ) → sum_by (λ (u : View). times_in worker u.parts) views ≡ sum_by (λ (u : View). times_in worker u.parts) s.views)
    → AreCurrent limits c.history views → Counted limits (record s { views = views })
views-keep limits s views c same current = record {
  history = c.history;
  is_history = c.is_history;
  small = c.small;
  wide = c.wide;
  spent = c.spent;
  granted = c.granted;
  losses = c.losses;
  once = λ worker below. same worker ∙ c.once worker below;
  never = λ worker far. same worker ∙ c.never worker far;
  current = current;
}

pub splits-keep : (limits : Limits) (id : ℕ) (v : View) → Splits (Counted limits) id v (all_but_first v) (only_first v)
splits-keep limits id v s c there =
    let rest = all_but_first v in let first = only_first v in let views = set s.views id rest in
    let same : (worker : ℕ)
    → sum_by (λ (u : View). times_in worker u.parts) (views ++ first ∷ []) ≡ sum_by (λ (u : View). times_in worker u.parts) s.views =
    λ worker. omega (
      arith,
      sum_by-append (λ (u : View). times_in worker u.parts) views (first ∷ []),
      sum_by-cons (λ (u : View). times_in worker u.parts) first [],
      sum-set (λ (u : View). times_in worker u.parts) s.views id v rest there,
      times-cut worker v.parts,
    ) in views-keep limits s (views ++ first ∷ []) c same
    (λ other u at. ⊎_elim
    (λ (t : get_elem? views other ≡ some u). ⊎_elim
    (λ (e : (other ≡ id) × (rest ≡ u)).
    subst (λ (w : View). AreCurrentParts limits c.history w.parts) e.1
    (current-rest limits c.history v.parts (c.current id v there)))
    (λ (e : (other ≢ id) × (get_elem? s.views other ≡ some u)). c.current other u e.1)
    (at_set s.views id other rest u t))
    (λ (t : first ≡ u). subst (λ (w : View). AreCurrentParts limits c.history w.parts) t
    (current-first limits c.history v.parts (c.current id v there)))
    (at_snoc views first u other at))

pub joins-keep : (limits : Limits) (id : ℕ) (v : View) (other : ℕ) (w : View) → Joins (Counted limits) id v other w (joined v w) no_parts
joins-keep limits id v other w s c there apart also =
    let both = joined v w in let views = set s.views id both in
    let was : get_elem? s.views other ≡ some w = sym (set_else s.views id other both apart) ∙ also in
    let same : (worker : ℕ)
    → sum_by (λ (u : View). times_in worker u.parts) (set views other no_parts) ≡ sum_by
    (λ (u : View). times_in worker u.parts) s.views = λ worker. omega (
      arith,
      sum-set (λ (u : View). times_in worker u.parts) views other w no_parts also,
      sum-set (λ (u : View). times_in worker u.parts) s.views id v both there,
      times-append worker w.parts v.parts,
    ) in views-keep limits s (set views other no_parts) c same
    (λ one u at. ⊎_elim
    (λ (t : (one ≡ other) × (no_parts ≡ u)). subst (λ (x : View). AreCurrentParts limits c.history x.parts) t.1 tt)
    (λ (t : (one ≢ other) × (get_elem? views one ≡ some u)). ⊎_elim
    (λ (e : (one ≡ id) × (both ≡ u)).
    subst (λ (x : View). AreCurrentParts limits c.history x.parts) e.1
    (current-append limits c.history w.parts v.parts (c.current other w was) (c.current id v there)))
    (λ (e : (one ≢ id) × (get_elem? s.views one ≡ some u)). c.current one u e.1)
    (at_set s.views id one both u t.1))
    (at_set views other one no_parts u at))

-- ---- the start

pub opens : (limits : Limits) (words : List ℕ) → AreSmall limits → length words ≡ limits.words + 1 → ((k : ℕ) → slice_index words k ≡ 0)
    → Counted limits (opening words [] (first_view limits))
opens limits words small wide zeros =
    let one : (worker : ℕ)
    → sum_by (λ (u : View). times_in worker u.parts) (first_view limits ∷ []) ≡ times_in worker (new_parts limits 0 limits.workers) =
    λ worker. omega (arith, sum_by-cons (λ (u : View). times_in worker u.parts) (first_view limits) []) in
    let nothing = start-granted limits.budget limits.words limits.workers in record {
      history = [];
      is_history = tt;
      small = small;
      wide = wide;
      spent = omega (arith, zeros 0, nothing, start-refused limits.budget limits.words limits.workers);
      granted = omega (arith, zeros 0, nothing);
      losses = λ word below. zeros (word + 1) ∙ sym (start-losses limits.budget limits.words limits.workers word);
      once = λ worker below. one worker ∙ times-among limits 0 limits.workers worker (omega arith) (omega arith);
      never = λ worker far. one worker ∙ times-after limits 0 limits.workers worker (omega arith);
      current = λ id u at. ⊎_elim
          (λ (t : get_elem? [] id ≡ some u). absurd (some-ne-none u (sym t)))
          (λ (t : first_view limits ≡ u). subst (λ (w : View). AreCurrentParts limits [] w.parts) t (current-new limits 0 limits.workers))
          (at_snoc [] (first_view limits) u id at);
    }
