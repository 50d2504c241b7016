-- What the words are at the end, where one seat has the parts of all workers.
use Rattle.std.proofs.Common.{◌≡◌, ℕ, zero, suc, ◌+◌, ◌*◌, ◌<◌, ◌≤◌, true, cond, List, [], ◌∷◌, length, map, drop, min, refl, sym, ap, ◌∙◌}
use Rattle.std.proofs.Common.{subst, arith, length-drop}
use Rattle.std.specs.Prelude.{slice_index}
use Rattle.std.specs.List.{sum_by, sum, All, Any}
use Rattle.std.proofs.lemmas.List.Sums.{sum_by-cons, get_or-le-sum_by}
use mathlib.Core.Option.{some}
use lib.ListN.{get_elem?}
use Rattle.atomic_table.specs.Table.{State, Final, Seen}
use Rattle.hx_count.specs.declared.events.CountEvent.{CountEvent}
use Rattle.hx_count.specs.declared.events.TheConstants.{MOST_HELD}
use Rattle.hx_count.specs.declared.views.Limits.{Limits}
use Rattle.hx_count.specs.declared.views.Part.{Part}
use Rattle.hx_count.specs.declared.views.View.{View}
use Rattle.hx_count.specs.Machine.{CountsState, Account, no_account, account_of, granted_to_all, refused_of_all, losses_at, held_in_all}
use Rattle.hx_count.specs.Machine.{held_by_all}
use Rattle.hx_count.specs.Histories.{GoesOn}
use Rattle.hx_count.specs.Counted.{Seated, start_of, state_after, IsHistory, view, times_in, AreCurrentParts, Counted}
use Rattle.hx_count.specs.Seats.{Origin, Seat, own, part_of, AreTotals}
use Rattle.hx_count.proofs.MachineLaws.{goes_on-account, history-bounded, history-workers, held-losses, held-le, run-budget}
use Rattle.hx_count.proofs.MachineLaws.{history-in_budget}
use Rattle.hx_count.proofs.Sums.{upto, upto-same, sum-upto, sum_by-upto}
use Rattle.hx_count.proofs.Terms.{term-le}
use Rattle.hx_count.proofs.PartLaws.{times-first}
use Rattle.hx_count.proofs.Workers.{times, times-cons, sum-once}

-- one history agrees with the words, and has gone on from each of the parts
pub record Ends (limits : Limits) (words : List ℕ) (parts : List Part) : Type 0 where
  pub history : List CountEvent
  pub is_history : IsHistory limits history
  pub wide : length words ≡ limits.words + 1
  pub spent : slice_index words 0 ≡ granted_to_all (state_after limits history) + refused_of_all (state_after limits history)
  pub granted : granted_to_all (state_after limits history) ≡ min (slice_index words 0) limits.budget
  pub losses : (word : ℕ) → word < limits.words → slice_index words (word + 1) ≡ losses_at (state_after limits history) word
  pub once : (worker : ℕ) → worker < limits.workers → times_in worker parts ≤ 1
  pub never : (worker : ℕ) → limits.workers ≤ worker → times_in worker parts ≡ 0
  pub current : AreCurrentParts limits history parts

ends-now : (limits : Limits) (s : State (Unit {0}) View) (id : ℕ) (v : View) → Counted limits s → get_elem? s.views id ≡ some v
    → Ends limits s.words v.parts
ends-now limits s id v c there = record {
  history = c.history;
  is_history = c.is_history;
  wide = c.wide;
  spent = c.spent;
  granted = c.granted;
  losses = c.losses;
  once = λ worker below. omega (arith, c.once worker below, term-le (λ (u : View). times_in worker u.parts) s.views id v there);
  never = λ worker far. omega (arith, c.never worker far, term-le (λ (u : View). times_in worker u.parts) s.views id v there);
  current = c.current id v there;
}

pub ends : (limits : Limits) (id : ℕ) (v : View) (words : List ℕ) (slots : List (Unit {0})) → Final (Seen (Counted limits) id v) words slots
    → Ends limits words v.parts
ends limits id v words slots final =
    subst (λ (w : List ℕ). Ends limits w v.parts) final.2 (ends-now limits final.0 id v final.1.0 final.1.1)

length-numbers : (parts : List Part) → length (map (λ (p : Part). p.worker) parts) ≡ length parts
length-numbers [] = refl
length-numbers (p ∷ parts) = ap suc (length-numbers parts)

times-numbers : (worker : ℕ) (parts : List Part) → times worker (map (λ (p : Part). p.worker) parts) ≡ times_in worker parts
times-numbers worker [] = refl
times-numbers worker (p ∷ parts) =
    omega (arith, times-cons worker p.worker (map (λ (q : Part). q.worker) parts), times-first worker p parts, times-numbers worker parts)

sum-numbers : (f : ℕ → ℕ) (parts : List Part) → sum_by (λ (p : Part). f p.worker) parts ≡ sum_by f (map (λ (p : Part). p.worker) parts)
sum-numbers f [] = refl
sum-numbers f (p ∷ parts) =
    omega (
      arith,
      sum_by-cons (λ (q : Part). f q.worker) p parts,
      sum_by-cons f p.worker (map (λ (q : Part). q.worker) parts),
      sum-numbers f parts,
    )

module _ (limits : Limits) (words : List ℕ) (parts : List Part) (e : Ends limits words parts) where
  abbrev last : CountsState
  last = state_after limits e.history

  index-rest : (ws : List ℕ) (k : ℕ) → slice_index (drop 1 ws) k ≡ slice_index ws (suc k)
  index-rest [] k = refl
  index-rest (w ∷ ws) k = refl

  -- the loss words together are what all workers hold
  pub held-words : sum (drop 1 words) ≡ held_by_all last
  held-words =
      let long : length (drop 1 words) ≡ limits.words = omega (arith, length-drop 1 words, e.wide) in
      sum-upto (drop 1 words)
      ∙ (ap (λ n. upto n (λ k. slice_index (drop 1 words) k)) long
      ∙ (upto-same limits.words (λ k. slice_index (drop 1 words) k) (λ k. losses_at last k)
      (λ k below. index-rest words k ∙ (ap (slice_index words) (omega arith) ∙ e.losses k below))
      ∙ held-losses limits.words last (history-bounded limits.budget limits.words limits.workers e.history e.is_history)))

  pub few-held : held_by_all last ≤ limits.workers * MOST_HELD
  few-held = omega (
    arith,
    held-le limits.words last (history-bounded limits.budget limits.words limits.workers e.history e.is_history),
    ap (λ n. n * MOST_HELD) (history-workers limits.budget limits.words limits.workers e.history),
  )

  -- a sum over the workers' accounts is one over the parts
  workers-sum : (f : Account → ℕ) → length parts ≡ limits.workers
      → sum_by (λ (p : Part). f (account_of last p.worker)) parts ≡ sum_by f last.accounts
  workers-sum f long =
      let numbers = map (λ (p : Part). p.worker) parts in
      let as-many : length numbers ≡ limits.workers = length-numbers parts ∙ long in
      let each = sum-once limits.workers numbers (λ worker. f (account_of last worker)) as-many
      (λ n below. omega (arith, times-numbers n parts, e.once n below))
      (λ n far. times-numbers n parts ∙ e.never n far) in
      sum-numbers (λ worker. f (account_of last worker)) parts
      ∙ (each ∙ (ap (λ n. upto n (λ worker. f (account_of last worker)))
      (sym (history-workers limits.budget limits.words limits.workers e.history)) ∙ sym (sum_by-upto f last.accounts no_account)))

-- ---- the seats that were given back

module _ (made : Origin) (seats : List Seat) (words : List ℕ) (e : Ends made.limits words (map part_of seats)) where
  current-seats : (more : List Seat) → AreCurrentParts made.limits e.history (map part_of more)
      → All (λ (s : Seat). GoesOn s.worker s.seen e.history) more
  current-seats [] current k d less = absurd (omega arith)
  current-seats (s ∷ more) current zero d less = current.0.goes_on
  current-seats (s ∷ more) current (suc k) d less = current-seats more current.1 k d (omega arith)

  pub all-seen : All (λ (s : Seat). GoesOn s.worker s.seen e.history) seats
  all-seen = current-seats seats e.current

  -- each worker has at the end what its seat says
  own-last : (f : Account → ℕ) (more : List Seat) → AreCurrentParts made.limits e.history (map part_of more)
      → sum_by (λ (s : Seat). f (own s)) more ≡ sum_by (λ (p : Part). f (account_of (state_after made.limits e.history) p.worker))
      (map part_of more)
  own-last f [] current = refl
  own-last f (s ∷ more) current =
      let same : own s ≡ account_of (state_after made.limits e.history) s.worker =
      ap (λ (l : Limits). account_of (state_after l s.seen) s.worker) current.0.same_limits
      ∙ sym (goes_on-account (start_of made.limits) s.worker s.seen e.history current.0.goes_on) in
      omega (
        arith,
        sum_by-cons (λ (t : Seat). f (own t)) s more,
        sum_by-cons (λ (p : Part). f (account_of (state_after made.limits e.history) p.worker)) (part_of s) (map part_of more),
        ap f same,
        own-last f more current.1,
      )

  length-parts : (more : List Seat) → length (map part_of more) ≡ length more
  length-parts [] = refl
  length-parts (s ∷ more) = ap suc (length-parts more)

  pub seats-sum : (f : Account → ℕ) → length seats ≡ made.limits.workers
      → sum_by (λ (s : Seat). f (own s)) seats ≡ sum_by f (state_after made.limits e.history).accounts
  seats-sum f all = own-last f seats e.current ∙ workers-sum made.limits words (map part_of seats) e f (length-parts seats ∙ all)

  pub held-seats : length seats ≡ made.limits.workers → sum (drop 1 words) ≡ sum_by (λ (s : Seat). held_in_all (own s)) seats
  held-seats all = held-words made.limits words (map part_of seats) e ∙ sym (seats-sum held_in_all all)

  pub granted-seats : length seats ≡ made.limits.workers
      → min (slice_index words 0) made.limits.budget ≡ sum_by (λ (s : Seat). (own s).granted) seats
  granted-seats all = sym e.granted ∙ sym (seats-sum (λ (a : Account). a.granted) all)

  -- where a worker was refused, all units are granted
  pub refused-seats : length seats ≡ made.limits.workers → Any (λ (s : Seat). (own s).refused ≡ true) seats
      → min (slice_index words 0) made.limits.budget ≡ made.limits.budget
  refused-seats all some_refused =
      let f : Seat → ℕ = λ s. cond (own s).refused 1 0 in
      let one : f some_refused.1 ≡ 1 = ap (λ b. cond b 1 0) some_refused.4 in
      let refused : 0 < refused_of_all (state_after made.limits e.history) =
      omega (
        arith,
        one,
        get_or-le-sum_by f seats some_refused.0 some_refused.1 some_refused.2,
        ap f some_refused.3,
        seats-sum (λ (a : Account). cond a.refused 1 0) all,
      ) in
      sym e.granted ∙ ((history-in_budget made.limits.budget made.limits.words made.limits.workers e.history e.is_history).full refused
      ∙ run-budget (start_of made.limits) e.history)

  pub closed : (granted held : ℕ) → granted ≡ min (slice_index words 0) made.limits.budget → held ≡ sum (drop 1 words)
      → AreTotals made seats granted held
  closed granted held is_granted is_held = record {
    history = e.history;
    is_history = e.is_history;
    seen = all-seen;
    same_granted = is_granted ∙ sym e.granted;
    same_held = is_held ∙ held-words made.limits words (map part_of seats) e;
  }

-- the gathered seat at the end
pub ended : (key limits : Limits) (id : ℕ) (me : Seated) (seats : List Seat) (words : List ℕ) (slots : List (Unit {0})) → key ≡ limits
    → me ≡ (view (map part_of seats), [])
    → Final (Seen (Counted key) id me.0) words slots → Ends limits words (map part_of seats)
ended key limits id me seats words slots same whole final =
    subst (λ (l : Limits). Ends l words (map part_of seats)) same
    (ends key id (view (map part_of seats)) words slots (subst (λ (m : Seated). Final (Seen (Counted key) id m.0) words slots) whole final))
