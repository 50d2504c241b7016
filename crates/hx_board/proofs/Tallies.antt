-- How many numbers below a bound pass a test: what the counts of members of a set and of empty cells have in common.
-- Where one test differs from another at one number alone, that is one more or one less.
use Rattle.std.proofs.Common.{◌≡◌, ◌≢◌, ℕ, zero, suc, ◌+◌, ◌<◌, ◌≤◌, Bool, true, false, ◌&&◌, not, eqb, eq-eqb, refl, sym, ap, ◌∙◌, arith}
use Rattle.std.proofs.Common.{⊎_elim}
use Rattle.std.specs.Prelude.{if◌then◌else◌}
use Rattle.std.proofs.lemmas.Bool.{cases_lt, ne_eqb}
use Rattle.hx_board.specs.Sets.{has, remove, count_below}
use Rattle.hx_board.proofs.SetLaws.{has-remove}

-- what one number adds
abbrev pub share : Bool → ℕ
share passes = if passes then 1 else 0

abbrev pub tally : (ℕ → Bool) → ℕ → ℕ
tally test zero = 0
tally test (suc bound) = share (test bound) + tally test bound

pub tally-same : (test other : ℕ → Bool) (bound : ℕ) → ((n : ℕ) → n < bound → test n ≡ other n) → tally test bound ≡ tally other bound
tally-same test other zero same = refl
tally-same test other (suc bound) same =
    let last = ap share (same bound (omega arith)) in
    let rest = tally-same test other bound (λ n h. same n (omega arith)) in omega arith

pub tally-one_less : (test other : ℕ → Bool) (n bound : ℕ) → test n ≡ true → other n ≡ false → ((k : ℕ) → k ≢ n → test k ≡ other k)
    → n < bound
    → tally test bound ≡ suc (tally other bound)
tally-one_less test other n zero passes fails same less = absurd (omega arith)
tally-one_less test other n (suc bound) passes fails same less =
    ⊎_elim (λ k. earlier k (tally-one_less test other n bound passes fails same k)) last (cases_lt n bound)
  where
    earlier : n < bound → tally test bound ≡ suc (tally other bound) → tally test (suc bound) ≡ suc (tally other (suc bound))
    earlier k rest = let here = ap share (same bound (λ e. absurd (omega arith))) in omega arith

    last : bound ≤ n → tally test (suc bound) ≡ suc (tally other (suc bound))
    last k =
        let e : n ≡ bound = omega arith in
        let before = ap share (ap test (sym e) ∙ passes) in
        let after = ap share (ap other (sym e) ∙ fails) in
        let rest = tally-same test other bound (λ j h. same j (λ w. absurd (omega arith))) in omega arith

pub tally-none : (test : ℕ → Bool) (bound : ℕ) → ((n : ℕ) → n < bound → test n ≡ false) → tally test bound ≡ 0
tally-none test zero none = refl
tally-none test (suc bound) none =
    let last = ap share (none bound (omega arith)) in
    let rest = tally-none test bound (λ n h. none n (omega arith)) in omega arith

-- ---- the members of a set

pub count_below-tally : (bound set : ℕ) → count_below bound set ≡ tally (has set) bound
unfolding count_below
count_below-tally zero set = refl
count_below-tally (suc bound) set = let rest = count_below-tally bound set in omega arith

pub count_below-remove : (bound set n : ℕ) → has set n ≡ true → n < bound → count_below bound set ≡ suc (count_below bound (remove set n))
count_below-remove bound set n member less =
    rw (count_below-tally bound set, count_below-tally bound (remove set n))
    (tally-one_less (has set) (has (remove set n)) n bound member
    (has-remove set n n ∙ taken (has set n) _ (eq-eqb n n refl)) (λ k other. sym (has-remove set n k ∙ kept (has set k) other)) less)
  where
    taken : (member same : Bool) → same ≡ true → (member && not same) ≡ false
    taken true same e = ap not e
    taken false same e = refl

    kept : (member : Bool) {k : ℕ} → k ≢ n → (member && not (eqb k n)) ≡ member
    kept true other = ap not (ne_eqb _ n other)
    kept false other = refl
