-- Parts that come and go. For the steps of the counts.
use Rattle.std.proofs.Common.{◌≡◌, ◌≢◌, ℕ, zero, suc, ◌+◌, ◌-◌, ◌<◌, ◌≤◌, cond, ⊎_elim, List, [], ◌∷◌, ◌++◌, take, drop, refl, sym, ap, ◌∙◌}
use Rattle.std.proofs.Common.{arith, append_assoc, append-nil}
use Rattle.std.specs.Prelude.{◌==◌}
use Rattle.std.proofs.lemmas.List.Sums.{sum_by-cons, sum_by-append}
use Rattle.std.proofs.lemmas.Bool.{cases_eq}
use Rattle.hx_count.specs.declared.events.CountEvent.{CountEvent}
use Rattle.hx_count.specs.declared.views.Limits.{Limits}
use Rattle.hx_count.specs.declared.views.Part.{Part}
use Rattle.hx_count.specs.Machine.{worker_of}
use Rattle.hx_count.specs.Histories.{AreOthers, GoesOn}
use Rattle.hx_count.specs.Counted.{part, times_in, AreCurrentParts, new_parts}
use Rattle.hx_count.proofs.Workers.{one_same, same-one, other-none}

pub times-single : (worker : ℕ) (p : Part) → times_in worker (p ∷ []) ≡ one_same worker p.worker
times-single worker p = omega (arith, sum_by-cons (λ (q : Part). cond (q.worker == worker) 1 0) p [])

pub times-first : (worker : ℕ) (p : Part) (parts : List Part)
    → times_in worker (p ∷ parts) ≡ one_same worker p.worker + times_in worker parts
times-first worker p parts = sum_by-cons (λ (q : Part). cond (q.worker == worker) 1 0) p parts

pub times-append : (worker : ℕ) (parts more : List Part) → times_in worker (parts ++ more) ≡ times_in worker parts + times_in worker more
times-append worker parts more = sum_by-append (λ (q : Part). cond (q.worker == worker) 1 0) parts more

-- the first part and the others are all
pub times-cut : (worker : ℕ) (parts : List Part) → times_in worker (take 1 parts) + times_in worker (drop 1 parts) ≡ times_in worker parts
times-cut worker [] = refl
times-cut worker (p ∷ parts) = omega (arith, times-first worker p parts, times-single worker p)

pub current-append : (limits : Limits) (history : List CountEvent) (parts more : List Part) → AreCurrentParts limits history parts
    → AreCurrentParts limits history more → AreCurrentParts limits history (parts ++ more)
current-append limits history [] more current also = also
current-append limits history (p ∷ parts) more current also = (current.0, current-append limits history parts more current.1 also)

pub current-first : (limits : Limits) (history : List CountEvent) (parts : List Part) → AreCurrentParts limits history parts
    → AreCurrentParts limits history (take 1 parts)
current-first limits history [] current = current
current-first limits history (p ∷ parts) current = (current.0, tt)

pub current-rest : (limits : Limits) (history : List CountEvent) (parts : List Part) → AreCurrentParts limits history parts
    → AreCurrentParts limits history (drop 1 parts)
current-rest limits history [] current = current
current-rest limits history (p ∷ parts) current = current.1

-- ---- histories

others-append : (worker : ℕ) (events more : List CountEvent) → AreOthers worker events → AreOthers worker more
    → AreOthers worker (events ++ more)
others-append worker [] more others also = also
others-append worker (event ∷ events) more others also = (others.0, others-append worker events more others.1 also)

pub goes_on-now : (worker : ℕ) (history : List CountEvent) → GoesOn worker history history
goes_on-now worker history = record { between = []; others = tt; same = sym (append-nil history) }

-- another worker's event is one more
pub goes_on-more : (worker : ℕ) (old history : List CountEvent) (event : CountEvent) → worker_of event ≢ worker → GoesOn worker old history
    → GoesOn worker old (history ++ event ∷ [])
goes_on-more worker old history event apart on = record {
  between = on.between ++ event ∷ [];
  others = others-append worker on.between (event ∷ []) on.others (apart, tt);
  same = ap (λ l. l ++ event ∷ []) on.same ∙ append_assoc old on.between (event ∷ []);
}

-- parts of other workers stay current
pub current-more : (limits : Limits) (history : List CountEvent) (event : CountEvent) (parts : List Part)
    → times_in (worker_of event) parts ≡ 0
    → AreCurrentParts limits history parts → AreCurrentParts limits (history ++ event ∷ []) parts
current-more limits history event [] none current = tt
current-more limits history event (p ∷ parts) none current =
    let sum = times-first (worker_of event) p parts in
    let apart : worker_of event ≢ p.worker = λ same. absurd (omega (arith, none, sum, same-one (worker_of event) p.worker (sym same))) in (
      record { same_limits = current.0.same_limits; goes_on = goes_on-more p.worker p.seen history event apart current.0.goes_on },
      current-more limits history event parts (omega (arith, none, sum)) current.1,
    )

-- ---- the parts of all workers

pub times-before : (limits : Limits) (first count worker : ℕ) → worker < first → times_in worker (new_parts limits first count) ≡ 0
times-before limits first zero worker less = refl
times-before limits first (suc count) worker less = omega (
  arith,
  times-first worker (part limits first []) (new_parts limits (first + 1) count),
  other-none worker first (λ same. omega arith),
  times-before limits (first + 1) count worker (omega arith),
)

pub times-among : (limits : Limits) (first count worker : ℕ) → first ≤ worker → worker < first + count
    → times_in worker (new_parts limits first count) ≡ 1
times-among limits first zero worker from to = absurd (omega arith)
times-among limits first (suc count) worker from to = ⊎_elim
    (λ same. omega (
      arith,
      times-first worker (part limits first []) (new_parts limits (first + 1) count),
      same-one worker first same,
      times-before limits (first + 1) count worker (omega arith),
    ))
    (λ apart. omega (
      arith,
      times-first worker (part limits first []) (new_parts limits (first + 1) count),
      other-none worker first apart,
      times-among limits (first + 1) count worker (omega arith) (omega arith),
    ))
    (cases_eq first worker)

pub times-after : (limits : Limits) (first count worker : ℕ) → first + count ≤ worker → times_in worker (new_parts limits first count) ≡ 0
times-after limits first zero worker far = refl
times-after limits first (suc count) worker far = omega (
  arith,
  times-first worker (part limits first []) (new_parts limits (first + 1) count),
  other-none worker first (λ same. omega arith),
  times-after limits (first + 1) count worker (omega arith),
)

pub current-new : (limits : Limits) (first count : ℕ) → AreCurrentParts limits [] (new_parts limits first count)
current-new limits first zero = tt
current-new limits first (suc count) = (record { same_limits = refl; goes_on = goes_on-now first [] }, current-new limits (first + 1) count)

pub first-new : (limits : Limits) (first count : ℕ) → 0 < count → take 1 (new_parts limits first count) ≡ part limits first [] ∷ []
first-new limits first zero more = absurd (omega arith)
first-new limits first (suc count) more = refl

pub rest-new : (limits : Limits) (first count : ℕ) → drop 1 (new_parts limits first count) ≡ new_parts limits (first + 1) (count - 1)
rest-new limits first zero = refl
rest-new limits first (suc count) = ap (new_parts limits (first + 1)) (omega arith)
