-- The words of an `or` line after its first, read one by one: those taken are the numbers of its parts so far. At a
-- word that is no number the words are those of no list of numbers, and after the most parts that there may be no
-- further word is left.
use Rattle.std.proofs.Common.{◌≡◌, ◌≢◌, ℕ, ◌+◌, ◌≤◌, List, [], ◌∷◌, ◌++◌, length, map}
use Rattle.std.proofs.Common.{sym, ap, ◌∙◌, subst, arith, append_assoc, length-append}
use Rattle.std.proofs.lemmas.List.{append-nil, map-append}
use Rattle.std.proofs.lemmas.List.Elements.{All-nil, All-head, All-tail, All-push}
use Rattle.std.specs.Prelude.{All}
use Rattle.std.specs.Fmt.{decimal}
use Rattle.hx_link.specs.declared.parts.TheConstants.{MOST_PARTS}
use Rattle.hx_lex.specs.Words.{IsNumber}

-- these parts were taken, and these words are left
pub record PartsTaken (words left : List (List ℕ)) (parts : List ℕ) (count : ℕ) : Type 0 where
  pub same : words ≡ map decimal parts ++ left
  pub numbers : All IsNumber parts
  pub count_is : length parts ≡ count

pub no_parts_taken : (words : List (List ℕ)) (parts : List ℕ) → parts ≡ [] → PartsTaken words words parts 0
no_parts_taken words parts none = record {
  same = ap (λ (ps : List ℕ). map decimal ps ++ words) (sym none);
  numbers = subst (All IsNumber) (sym none) (All-nil IsNumber);
  count_is = ap (λ (ps : List ℕ). length ps) none;
}

one_part_more : (words left rest : List (List ℕ)) (parts : List ℕ) (part count : ℕ) → PartsTaken words left parts count
    → IsNumber part → left ≡ decimal part ∷ rest → PartsTaken words rest (parts ++ part ∷ []) (count + 1)
one_part_more words left rest parts part count taken small e = record {
  same = taken.same ∙ ap (λ (ws : List (List ℕ)). map decimal parts ++ ws) e
      ∙ sym (append_assoc (map decimal parts) (decimal part ∷ []) rest)
      ∙ ap (λ (ws : List (List ℕ)). ws ++ rest) (sym (map-append decimal parts (part ∷ [])));
  numbers = All-push IsNumber parts part taken.numbers small;
  count_is = omega (arith, length-append parts (part ∷ []), taken.count_is);
}

pub part_taken : {words left rest : List (List ℕ)} {parts now : List ℕ} {part count : ℕ} → PartsTaken words left parts count
    → IsNumber part → left ≡ decimal part ∷ rest → now ≡ parts ++ part ∷ [] → PartsTaken words rest now (count + 1)
part_taken {words} {left} {rest} {parts} {now} {part} {count} taken small e is =
    subst (λ (ps : List ℕ). PartsTaken words rest ps (count + 1)) (sym is) (one_part_more words left rest parts part count taken small e)

-- all words were taken
pub all_parts_taken : {words left : List (List ℕ)} {parts : List ℕ} {count : ℕ} → PartsTaken words left parts count → left ≡ []
    → words ≡ map decimal parts
all_parts_taken {words} {left} {parts} {count} taken none =
    taken.same ∙ ap (λ (ws : List (List ℕ)). map decimal parts ++ ws) none ∙ append-nil (map decimal parts)

-- numbers whose words begin with those of the parts so far
record GoesOnWith (left : List (List ℕ)) (taken all : List ℕ) : Type 0 where
  more : List ℕ
  same : left ≡ map decimal more
  numbers : All IsNumber more
  count : length all ≡ length taken + length more

goes_on_with : (left : List (List ℕ)) (taken all : List ℕ) → map decimal taken ++ left ≡ map decimal all → All IsNumber all
    → GoesOnWith left taken all
goes_on_with left [] all e small = record { more = all; same = e; numbers = small; count = omega arith }
goes_on_with left (part ∷ taken) [] e small = cc
goes_on_with left (part ∷ taken) (first ∷ all) e small =
    let tails : map decimal taken ++ left ≡ map decimal all = cc in
    let later = goes_on_with left taken all tails (All-tail IsNumber first all small) in
    record { more = later.more; same = later.same; numbers = later.numbers; count = omega (arith, later.count) }

no_number_next : (left : List (List ℕ)) (more : List ℕ) → left ≢ []
    → ((part : ℕ) (rest : List (List ℕ)) → IsNumber part → left ≡ decimal part ∷ rest → ⊥) → left ≡ map decimal more → All IsNumber more → ⊥
no_number_next left [] some none e small = some e
no_number_next left (part ∷ more) some none e small = none part (map decimal more) (All-head IsNumber part more small) e

-- the next word is no number
pub no_part_next : {words left : List (List ℕ)} {parts : List ℕ} {count : ℕ} → PartsTaken words left parts count → left ≢ []
    → ((part : ℕ) (rest : List (List ℕ)) → IsNumber part → left ≡ decimal part ∷ rest → ⊥)
    → (all : List ℕ) → All IsNumber all → words ≡ map decimal all → ⊥
no_part_next {words} {left} {parts} {count} taken some none all small e =
    let on = goes_on_with left parts all (sym taken.same ∙ e) small in
    no_number_next left on.more some none on.same on.numbers

no_more_numbers : (left : List (List ℕ)) (more : List ℕ) → left ≢ [] → left ≡ map decimal more → length more ≡ 0 → ⊥
no_more_numbers left [] some e none = some e
no_more_numbers left (part ∷ more) some e none = absurd (omega arith)

-- there is a word more than there may be parts
pub too_many_parts : {words left : List (List ℕ)} {parts : List ℕ} {count : ℕ} → PartsTaken words left parts count → left ≢ []
    → MOST_PARTS ≤ count → (all : List ℕ) → length all ≤ MOST_PARTS → All IsNumber all → words ≡ map decimal all → ⊥
too_many_parts {words} {left} {parts} {count} taken some full all few small e =
    let on = goes_on_with left parts all (sym taken.same ∙ e) small in
    no_more_numbers left on.more some on.same (omega (arith, on.count, taken.count_is))
