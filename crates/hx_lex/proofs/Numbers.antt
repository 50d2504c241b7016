-- Numbers in decimal digits: a word of digits that is of the shape of a number is the one word of its value, and a loop
-- over the digits reads that value.
use Rattle.std.proofs.Common.{◌≡◌, ℕ, ◌+◌, ◌-◌, ◌*◌, ◌<◌, ◌≤◌, ◌^◌, List, length, get_or, take, zero, sym, ap, ◌∙◌, subst, arith}
use Rattle.std.proofs.Common.{length-take-le, ◌⊎◌, inl, inr, Result, Ok, Err, Option}
use Rattle.std.specs.Fmt.{decimal}
use Rattle.std.specs.Str.Parse.{AllDigits, digits_value}
use Rattle.std.proofs.lemmas.Fmt.{decimal_nonempty, length-decimal-le, first_decimal, decimal_digit, decimal-digits_value, digits_decimal}
use Rattle.std.proofs.lemmas.Fmt.{digits_value-decimal}
use Rattle.std.proofs.lemmas.Str.Parse.{IsNumeralModel, numerals_by_value, tells_digits}
use Rattle.std.proofs.lemmas.Int.Digits.{digits_value-lt, digits_value_more, digits_more}
use Rattle.std.proofs.Math.Nat.{pow-le-pow_right}
use Rattle.std.proofs.lemmas.Str.{digit_value_digit}
use Rattle.std.specs.Char.{digit_value}
use Rattle.std.specs.Int.{IsInRange}
use Rattle.std.proofs.lemmas.Bool.{cases_lt}
use Rattle.std.specs.Result.{OkIff, result_ok}
use Rattle.hx_lex.specs.Words.{IsCanonical, Reads, IsNumber}

own : IsNumeralModel (AllDigits 10) (digits_value 10)
own = numerals_by_value (AllDigits 10) tells_digits

pub decimal_digits : (n : ℕ) → n < 2 ^ 32 → AllDigits 10 (decimal n) × (digits_value 10 (decimal n) ≡ n)
decimal_digits n small = (digits_decimal own n (omega arith), digits_value-decimal own n (omega arith))

canonical_zero : (n : ℕ) → n < 2 ^ 64 → (0 < n) ⊎ (n ≤ 0) → get_or (decimal n) 0 0 ≡ 48 → length (decimal n) ≡ 1
canonical_zero n small (inl some) first = absurd (omega (arith, first_decimal n some small))
canonical_zero n small (inr none) first = let zero : n ≡ 0 = omega (arith, none) in rw zero (ap length (decimal_digit 0 (omega arith)))

pub decimal_canonical : (n : ℕ) → n < 2 ^ 32 → IsCanonical (decimal n)
decimal_canonical n small = record {
  some = decimal_nonempty n (omega arith);
  short = length-decimal-le 10 n (omega arith) (omega arith) (omega arith);
  no_zero = λ e. canonical_zero n (omega arith) (cases_lt 0 n) e;
}

pub short_power : (n most : ℕ) → n ≤ most → 10 ^ n ≤ 10 ^ most
short_power n most short = pow-le-pow_right (omega arith) short

pub decimal_again : (ds : List ℕ) → IsCanonical ds → AllDigits 10 ds → decimal (digits_value 10 ds) ≡ ds
decimal_again ds canonical digits =
    decimal-digits_value own ds digits canonical.some canonical.no_zero
    (omega (arith, digits_value-lt 10 ds digits, short_power (length ds) 10 canonical.short))

-- a loop over the digits reads one more
pub record ReadDigits (word : List ℕ) (i value : ℕ) : Type 0 where
  pub digits : AllDigits 10 (take i word)
  pub value_is : value ≡ digits_value 10 (take i word)

pub read_digit : (word : List ℕ) (i value : ℕ) → i < length word → IsInRange 48 57 (get_or word i 0) → ReadDigits word i value
    → ReadDigits word (i + 1) (10 * value + (get_or word i 0 - 48))
read_digit word i value within digit before =
    let is : digit_value (get_or word i 0) + 48 ≡ get_or word i 0 = digit_value_digit (get_or word i 0) digit in
    let step : digits_value 10 (take (i + 1) word) ≡ digits_value 10 (take i word) * 10 + digit_value (get_or word i 0) =
    digits_value_more 10 word i within in
    let same : value ≡ digits_value 10 (take i word) = before.value_is in
    record {
      digits = digits_more 10 word i within before.digits (omega (arith, is, digit.1));
      value_is = omega (arith, is, step, same);
    }

pub value_bound : (word : List ℕ) (i value : ℕ) → i ≤ length word → i ≤ 18 → ReadDigits word i value → value < 10 ^ 18
value_bound word i value within short before =
    omega (
      arith,
      digits_value-lt 10 (take i word) before.digits,
      length-take-le i word within,
      short_power
          (length (take i word)) 18 (omega (arith, length-take-le i word within)),
      before.value_is,
    )

pub not_a_number : (word : List ℕ) → (AllDigits 10 word → ⊥) → (n : ℕ) → n < 2 ^ 32 → word ≡ decimal n → ⊥
not_a_number word other n small e = other (subst (AllDigits 10) (sym e) (decimal_digits n small).0)

pub number_reads : {E : Type 0} (word : List ℕ) (value : ℕ) (narrow : Result ℕ E) (read : Option ℕ) → IsCanonical word
    → AllDigits 10 word → value ≡ digits_value 10 word → OkIff narrow (value < 2 ^ 32) value → read ≡ result_ok narrow
    → Reads decimal IsNumber word read
number_reads word value (Ok n) read shape digits is narrows e =
    rw e (omega (arith, narrows), sym (decimal_again word shape digits) ∙ ap decimal (sym (narrows.1 ∙ is)))
number_reads word value (Err x) read shape digits is narrows e =
    rw e (λ n small f. narrows (rw (is ∙ ap (digits_value 10) f ∙ (decimal_digits n small).1) small))
