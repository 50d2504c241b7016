-- Numbers of fillings. A digit counts as much as all fillings of the cells below it are, so the number tells each
-- digit, and the number of the fillings of all cells is above it.
use Rattle.std.proofs.Common.{◌≡◌, ◌≢◌, ℕ, zero, suc, ◌+◌, ◌*◌, ◌^◌, ◌<◌, ◌≤◌, Bool, true, false, refl, sym, ◌∙◌}
use Rattle.std.proofs.Common.{subst, inl, inr, ⊎_elim, arith, ◌-◌, List, length, set}
use Rattle.std.proofs.lemmas.Bool.{false≢true, cases_lt, cases_eq, false_from_ne_true}
use Rattle.std.proofs.Math.Nat.{pow-suc, pow-succ', pow-le-pow_right}
use Rattle.std.proofs.lemmas.List.{get_or-set_same, get_or-set_other}
use Rattle.std.specs.Prelude.{if◌then◌else◌, slice_index}
use Rattle.hx_board.specs.declared.colours.Colour.{Colour}
use Rattle.hx_board.specs.declared.colours.Colour.TheVariants.{Black, White}
use Rattle.hx_board.specs.Colours.{other_of}
use Rattle.hx_board.specs.Positions.{Board, IsBoard, IsEmpty, put, stones_of}
use Rattle.hx_board.specs.Sets.{has, count_below}
use Rattle.hx_board.proofs.SetLaws.{same_test}
use Rattle.hx_board.proofs.ColourLaws.{other-differs}
use Rattle.hx_board.proofs.StoneLaws.{stones-put, empty-no_stone}
use Rattle.hx_template.specs.Fillings.{worth, number_below}

-- ---- one digit

share : Bool → ℕ
share b = if b then 1 else 0

pub next_power : (b : Bool) (k : ℕ) → 3 ^ ((if b then 1 else 0) + k) ≡ (if b then 3 * 3 ^ k else 3 ^ k)
next_power true k = let e : 1 + k ≡ suc k = omega arith in rw e (pow-succ' 3 k)
next_power false k = let e : 0 + k ≡ k = omega arith in rw e refl

step_small : (b own others : Bool) (w rest : ℕ) → rest < w → (if b then worth own others w else 0) + rest < (if b then 3 * w else w)
step_small true true others w rest less = omega arith
step_small true false true w rest less = omega arith
step_small true false false w rest less = omega arith
step_small false own others w rest less = omega arith

pub number_below-small : (n : ℕ) (player : Colour) (carrier : ℕ) (board : Board)
    → number_below n player carrier board < 3 ^ count_below n carrier
unfolding number_below count_below
number_below-small zero player carrier board = omega arith
number_below-small (suc n) player carrier board =
    rw (next_power (has carrier n) (count_below n carrier))
    (step_small (has carrier n) (has (stones_of board player) n) (has (stones_of board (other_of player)) n) (3 ^ count_below n carrier)
    (number_below n player carrier board)
    (number_below-small n player carrier board))

-- ---- the number tells each digit

-- no cell holds two stones
abbrev pub AreApart : Bool → Bool → Type 0
AreApart own others = own ≡ true → others ≡ false

rest_same : (b own others own_too others_too : Bool) (w rest rest_too : ℕ) → rest < w → rest_too < w
    → (if b then worth own others w else 0) + rest ≡ (if b then worth own_too others_too w else 0) + rest_too → rest ≡ rest_too
rest_same false own others own_too others_too w rest rest_too less less_too e = omega arith
rest_same true true others true others_too w rest rest_too less less_too e = omega arith
rest_same true true others false true w rest rest_too less less_too e = omega arith
rest_same true true others false false w rest rest_too less less_too e = omega arith
rest_same true false true true others_too w rest rest_too less less_too e = omega arith
rest_same true false true false true w rest rest_too less less_too e = omega arith
rest_same true false true false false w rest rest_too less less_too e = omega arith
rest_same true false false true others_too w rest rest_too less less_too e = omega arith
rest_same true false false false true w rest rest_too less less_too e = omega arith
rest_same true false false false false w rest rest_too less less_too e = omega arith

digit_same : (own others own_too others_too : Bool) (w rest rest_too : ℕ) → AreApart own others → AreApart own_too others_too → rest < w
    → rest_too < w
    → worth own others w + rest ≡ worth own_too others_too w + rest_too → (own ≡ own_too) × (others ≡ others_too)
digit_same true others true others_too w rest rest_too apart apart_too less less_too e = (refl, apart refl ∙ sym (apart_too refl))
digit_same true others false true w rest rest_too apart apart_too less less_too e = absurd (omega arith)
digit_same true others false false w rest rest_too apart apart_too less less_too e = absurd (omega arith)
digit_same false true true others_too w rest rest_too apart apart_too less less_too e = absurd (omega arith)
digit_same false true false true w rest rest_too apart apart_too less less_too e = (refl, refl)
digit_same false true false false w rest rest_too apart apart_too less less_too e = absurd (omega arith)
digit_same false false true others_too w rest rest_too apart apart_too less less_too e = absurd (omega arith)
digit_same false false false true w rest rest_too apart apart_too less less_too e = absurd (omega arith)
digit_same false false false false w rest rest_too apart apart_too less less_too e = (refl, refl)

pub stones-apart : (board : Board) (player : Colour) (n : ℕ) → IsBoard board
    → AreApart (has (stones_of board player) n) (has (stones_of board (other_of player)) n)
stones-apart board Black n is h = is.1.apart n h
stones-apart board White n is h = false_from_ne_true _ (λ k. false≢true (sym (is.1.apart n k) ∙ h))

-- both boards have the same stones of the player and of the opponent on a cell
abbrev pub AreSameAt : Colour → ℕ → Board → Board → Type 0
AreSameAt player n one other =
    (has (stones_of one player) n ≡ has (stones_of other player) n)
    × (has (stones_of one (other_of player)) n ≡ has (stones_of other (other_of player)) n)

module _ (player : Colour) (carrier : ℕ) (one other : Board) (one_is : IsBoard one) (other_is : IsBoard other) where
  at_last : (n : ℕ) (b : Bool) → b ≡ true → (w rest rest_too : ℕ) → rest < w → rest_too < w
      → (if b then worth (has (stones_of one player) n) (has (stones_of one (other_of player)) n) w else 0) + rest
      ≡ (if b then worth (has (stones_of other player) n) (has (stones_of other (other_of player)) n) w else 0) + rest_too
      → AreSameAt player n one other
  at_last n true h w rest rest_too less less_too e =
      digit_same _ _ _ _ w rest rest_too (stones-apart one player n one_is) (stones-apart other player n other_is) less less_too e
  at_last n false h w rest rest_too less less_too e = absurd (false≢true h)

  pub number_tells : (n : ℕ) → number_below n player carrier one ≡ number_below n player carrier other → (k : ℕ) → k < n
      → has carrier k ≡ true → AreSameAt player k one other
  unfolding number_below
  number_tells zero e k less inside = absurd (omega arith)
  number_tells (suc n) e k less inside = ⊎_elim
      (λ before. number_tells n
      (rest_same (has carrier n) (has (stones_of one player) n) (has (stones_of one (other_of player)) n) (has (stones_of other player) n)
      (has (stones_of other (other_of player)) n)
      (3 ^ count_below n carrier) _ _ (number_below-small n player carrier one) (number_below-small n player carrier other) e)
      k before inside)
      (λ last. let same : n ≡ k = omega arith in
      subst (λ m. AreSameAt player m one other) same
      (at_last n (has carrier n) (rw same inside) (3 ^ count_below n carrier) _ _ (number_below-small n player carrier one)
      (number_below-small n player carrier other) e))
      (cases_lt k n)

-- ---- the number after a stone on an empty cell

pub stones-elsewhere : (board : Board) (who player : Colour) (cell n : ℕ) → n ≢ cell
    → has (stones_of (put board who cell) player) n ≡ has (stones_of board player) n
stones-elsewhere board who player cell n differ =
    same_test _ _ (λ h. ⊎_elim (λ w. absurd (differ w.1)) (λ k. k) ((stones-put board who player cell n).0 h))
    (λ h. (stones-put board who player cell n).1 (inr h))

stone-there : (board : Board) (who : Colour) (cell : ℕ) → has (stones_of (put board who cell) who) cell ≡ true
stone-there board who cell = (stones-put board who who cell cell).1 (inl (refl, refl))

others-not_there : (board : Board) (who player : Colour) (cell : ℕ) → who ≢ player → IsEmpty board cell
    → has (stones_of (put board who cell) player) cell ≡ false
others-not_there board who player cell differ empty =
    false_from_ne_true _ (λ h. ⊎_elim (λ w. differ w.0) (λ k. false≢true (sym (empty-no_stone board player cell empty) ∙ k))
    ((stones-put board who player cell cell).0 h))

module _ (player : Colour) (carrier : ℕ) (board : Board) (who : Colour) (cell : ℕ) (empty : IsEmpty board cell)
    (inside : has carrier cell ≡ true) where
  number-before : (n : ℕ) → n ≤ cell → number_below n player carrier (put board who cell) ≡ number_below n player carrier board
  unfolding number_below
  number-before zero le = refl
  number-before (suc n) le =
      let differ : n ≢ cell = λ e. absurd (omega arith) in
      rw (
        stones-elsewhere board who player cell n differ,
        stones-elsewhere board who (other_of player) cell n differ,
        number-before n (omega arith),
      ) refl

  module _ (more : ℕ) (is_more : worth (has (stones_of (put board who cell) player) cell)
      (has (stones_of (put board who cell) (other_of player)) cell) (3 ^ count_below cell carrier) ≡ more) where
    number-put : (n : ℕ) → cell < n → number_below n player carrier (put board who cell) ≡ number_below n player carrier board + more
    unfolding number_below
    number-put zero less = absurd (omega arith)
    number-put (suc n) less = ⊎_elim
        (λ later.
        let differ : n ≢ cell = λ e. absurd (omega arith) in
        let rest = number-put n later in
        rw (stones-elsewhere board who player cell n differ, stones-elsewhere board who (other_of player) cell n differ) (omega arith))
        (λ last. let same : cell ≡ n = omega arith in here n same)
        (cases_lt cell n)
      where
        here : (n : ℕ) → cell ≡ n → number_below (suc n) player carrier (put board who cell)
            ≡ number_below (suc n) player carrier board + more
        here n same =
            let rest = number-before cell (omega arith) in
            rw (
              ← same,
              inside,
              is_more,
              rest,
              empty-no_stone board player cell empty,
              empty-no_stone board (other_of player) cell empty,
            ) (omega arith)

pub number-own : (player : Colour) (carrier : ℕ) (board : Board) (cell : ℕ) → IsEmpty board cell → has carrier cell ≡ true → (n : ℕ)
    → cell < n
    → number_below n player carrier (put board player cell) ≡ number_below n player carrier board + 3 ^ count_below cell carrier
number-own player carrier board cell empty inside =
    number-put player carrier board player cell empty inside (3 ^ count_below cell carrier) (rw (stone-there board player cell) refl)

pub number-others : (player : Colour) (carrier : ℕ) (board : Board) (cell : ℕ) → IsEmpty board cell → has carrier cell ≡ true → (n : ℕ)
    → cell < n
    → number_below n player carrier (put board (other_of player) cell)
    ≡ number_below n player carrier board + 2 * 3 ^ count_below cell carrier
number-others player carrier board cell empty inside =
    number-put player carrier board (other_of player) cell empty inside (2 * 3 ^ count_below cell carrier)
    (rw (
      others-not_there board (other_of player) player cell (λ e. other-differs player (sym e)) empty,
      stone-there board (other_of player) cell,
    ) refl)

-- where all cells of the carrier are empty the number is 0
pub number-empty : (n : ℕ) (player : Colour) (carrier : ℕ) (board : Board) → ((cell : ℕ) → has carrier cell ≡ true → IsEmpty board cell)
    → number_below n player carrier board ≡ 0
unfolding number_below
number-empty zero player carrier board empty = refl
number-empty (suc n) player carrier board empty = here (has carrier n) refl (number-empty n player carrier board empty)
  where
    here : (b : Bool) → has carrier n ≡ b → number_below n player carrier board ≡ 0
        → (if b then worth (has (stones_of board player) n) (has (stones_of board (other_of player)) n)
        (3 ^ count_below n carrier) else 0) + number_below n player carrier board ≡ 0
    here true inside rest = rw (
      empty-no_stone board player n (empty n inside),
      empty-no_stone board (other_of player) n (empty n inside),
      rest,
    ) refl
    here false outside rest = rw rest refl

-- ---- what each digit counts

pub power_in : (carrier n : ℕ) → has carrier n ≡ true → 3 ^ count_below (n + 1) carrier ≡ 3 ^ count_below n carrier * 3
unfolding count_below
power_in carrier n inside =
    let e : n + 1 ≡ suc n = omega arith in
    rw (e, inside) (let k : 1 + count_below n carrier ≡ suc (count_below n carrier) = omega arith in
    rw k (pow-suc 3 (count_below n carrier)))

pub power_out : (carrier n : ℕ) → has carrier n ≡ false → 3 ^ count_below (n + 1) carrier ≡ 3 ^ count_below n carrier
unfolding count_below
power_out carrier n outside =
    let e : n + 1 ≡ suc n = omega arith in
    rw (e, outside) (let k : 0 + count_below n carrier ≡ count_below n carrier = omega arith in rw k refl)

count-more : (carrier n more : ℕ) → count_below n carrier ≤ count_below (more + n) carrier
unfolding count_below
count-more carrier n zero = let e : 0 + n ≡ n = omega arith in rw e (omega arith)
count-more carrier n (suc more) = let e : suc more + n ≡ suc (more + n) = omega arith in rw e (omega (arith, count-more carrier n more))

pub power_small : (carrier n : ℕ) → count_below 128 carrier ≤ 12 → n ≤ 128 → 3 ^ count_below n carrier ≤ 531441
power_small carrier n few small =
    let e : (128 - n) + n ≡ 128 = omega arith in
    let le : count_below n carrier ≤ count_below 128 carrier = rw e at (count-more carrier n (128 - n)) in
    let few_here : count_below n carrier ≤ 12 = omega (arith, le, few) in
    pow-le-pow_right (omega arith) few_here

pub power_none : (carrier : ℕ) → 1 ≡ 3 ^ count_below 0 carrier
unfolding count_below
power_none carrier = refl

pub powers_next : (weights : List ℕ) (index weight carrier : ℕ) → index < length weights → weight ≡ 3 ^ count_below index carrier
    → ((n : ℕ) → n < index → slice_index weights n ≡ 3 ^ count_below n carrier)
    → (n : ℕ) → n < index + 1 → slice_index (set weights index weight) n ≡ 3 ^ count_below n carrier
powers_next weights index weight carrier within is before n less = ⊎_elim
    (λ same. rw same (get_or-set_same weights index weight 0 within ∙ is))
    (λ differ. get_or-set_other weights index n weight 0 differ ∙ before n (omega (arith, differ)))
    (cases_eq n index)
