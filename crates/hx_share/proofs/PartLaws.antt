-- Parts that come and go: how many of them are seats and how many have the book, and that they stay current.
use Rattle.std.proofs.Common.{◌≡◌, ℕ, zero, suc, ◌+◌, ◌≤◌, Bool, true, false, cond, List, [], ◌∷◌, ◌++◌, length, map, take, drop, replicate}
use Rattle.std.proofs.Common.{refl, sym, ap, ◌∙◌, arith}
use Rattle.std.specs.List.{count_by}
use Rattle.std.proofs.lemmas.List.Sums.{sum_by-cons, sum_by-append}
use Rattle.hx_tree.specs.declared.nodes.Node.{Node}
use Rattle.hx_tree.specs.Entries.{Extends}
use Rattle.hx_share.specs.declared.views.Limits.{Limits}
use Rattle.hx_share.specs.declared.views.Role.{Role}
use Rattle.hx_share.specs.declared.views.Role.TheVariants.{Note, Waiting, Acting}
use Rattle.hx_share.specs.declared.views.Part.{Part}
use Rattle.hx_share.specs.declared.views.View.{View}
use Rattle.hx_share.specs.OneList.{part, is_seat, has_book, seats_of, holders_of, IsCurrent, AreCurrentParts, noted}
use Rattle.hx_share.specs.Readers.{Reader, part_of}
use Rattle.hx_tree.proofs.EntryLaws.{extends-on}
use Rattle.hx_share.proofs.FrontLaws.{extends-nothing}

-- 1 where a part is one that is counted, else 0
abbrev pub one_if : Bool → ℕ
one_if counted = cond counted 1 0

abbrev pub seat_part : Part → Bool
seat_part p = is_seat p.role

abbrev pub holder_part : Part → Bool
holder_part p = has_book p.role

-- ---- how many parts are counted

module _ (counted : Part → Bool) where
  pub count-first : (p : Part) (parts : List Part) → count_by counted (p ∷ parts) ≡ one_if (counted p) + count_by counted parts
  count-first p parts = sum_by-cons (λ (q : Part). cond (counted q) 1 0) p parts

  pub count-one : (p : Part) → count_by counted (p ∷ []) ≡ one_if (counted p)
  count-one p = omega (arith, count-first p [])

  pub count-two : (p q : Part) → count_by counted (p ∷ q ∷ []) ≡ one_if (counted p) + one_if (counted q)
  count-two p q = omega (arith, count-first p (q ∷ []), count-one q)

  pub count-append : (parts more : List Part) → count_by counted (parts ++ more) ≡ count_by counted parts + count_by counted more
  count-append parts more = sum_by-append (λ (q : Part). cond (counted q) 1 0) parts more

  -- the first part and the others are all
  pub count-cut : (parts : List Part) → count_by counted (take 1 parts) + count_by counted (drop 1 parts) ≡ count_by counted parts
  count-cut [] = refl
  count-cut (p ∷ parts) = omega (arith, count-first p parts, count-one p)

  pub count-replicate : (n : ℕ) (p : Part) → counted p ≡ true → count_by counted (replicate n p) ≡ n
  count-replicate zero p is = refl
  count-replicate (suc n) p is = omega (arith, count-first p (replicate n p), ap one_if is, count-replicate n p is)

  pub count-replicate_none : (n : ℕ) (p : Part) → counted p ≡ false → count_by counted (replicate n p) ≡ 0
  count-replicate_none zero p is = refl
  count-replicate_none (suc n) p is = omega (arith, count-first p (replicate n p), ap one_if is, count-replicate_none n p is)

-- notes are no seats, and have no book
pub seats-notes : (parts : List Part) → count_by seat_part (map noted parts) ≡ 0
seats-notes [] = refl
seats-notes (p ∷ parts) = omega (arith, count-first seat_part (noted p) (map noted parts), seats-notes parts)

pub holders-notes : (parts : List Part) → count_by holder_part (map noted parts) ≡ 0
holders-notes [] = refl
holders-notes (p ∷ parts) = omega (arith, count-first holder_part (noted p) (map noted parts), holders-notes parts)

-- each of the seats' parts is one seat without the book
pub seats-of_seats : (seats : List Reader) → count_by seat_part (map part_of seats) ≡ length seats
seats-of_seats [] = refl
seats-of_seats (r ∷ seats) = omega (arith, count-first seat_part (part_of r) (map part_of seats), seats-of_seats seats)

pub holders-of_seats : (seats : List Reader) → count_by holder_part (map part_of seats) ≡ 0
holders-of_seats [] = refl
holders-of_seats (r ∷ seats) = omega (arith, count-first holder_part (part_of r) (map part_of seats), holders-of_seats seats)

-- who has the book is a seat
one-le : (role : Role) → one_if (has_book role) ≤ one_if (is_seat role)
one-le Note = omega arith
one-le Waiting = omega arith
one-le Acting = omega arith

holders-le_parts : (parts : List Part) → count_by holder_part parts ≤ count_by seat_part parts
holders-le_parts [] = omega arith
holders-le_parts (p ∷ parts) =
    omega (arith, count-first holder_part p parts, count-first seat_part p parts, one-le p.role, holders-le_parts parts)

pub holders-le : (v : View) → holders_of v ≤ seats_of v
holders-le v = holders-le_parts v.parts

-- ---- parts stay current

module _ (limits : Limits) where
  pub current-append : (nodes : List Node) (parts more : List Part) → AreCurrentParts limits nodes parts → AreCurrentParts limits nodes more
      → AreCurrentParts limits nodes (parts ++ more)
  current-append nodes [] more current also = also
  current-append nodes (p ∷ parts) more current also = (current.0, current-append nodes parts more current.1 also)

  pub current-first : (nodes : List Node) (parts : List Part) → AreCurrentParts limits nodes parts
      → AreCurrentParts limits nodes (take 1 parts)
  current-first nodes [] current = current
  current-first nodes (p ∷ parts) current = (current.0, tt)

  pub current-rest : (nodes : List Node) (parts : List Part) → AreCurrentParts limits nodes parts
      → AreCurrentParts limits nodes (drop 1 parts)
  current-rest nodes [] current = current
  current-rest nodes (p ∷ parts) current = current.1

  -- a part without the book, which has seen a front
  pub current-part : (nodes seen : List Node) (role : Role) → has_book role ≡ false → Extends seen nodes
      → IsCurrent limits nodes (part limits.slots role seen)
  current-part nodes seen role idle front =
      record { same_slots = refl; front = front; whole = λ acts. let never : true ≡ false = sym acts ∙ idle in cc }

  pub current-notes : (nodes : List Node) (parts : List Part) → AreCurrentParts limits nodes parts
      → AreCurrentParts limits nodes (map noted parts)
  current-notes nodes [] current = tt
  current-notes nodes (p ∷ parts) current = (
    record { same_slots = current.0.same_slots; front = current.0.front; whole = λ acts. cc },
    current-notes nodes parts current.1,
  )

  pub current-new : (n : ℕ) → AreCurrentParts limits [] (replicate n (part limits.slots Waiting []))
  current-new zero = tt
  current-new (suc n) = (current-part [] [] Waiting refl (extends-nothing []), current-new n)

  -- the list grows, while none of these parts has the book
  pub current-more : (nodes more : List Node) (parts : List Part) → Extends nodes more → count_by holder_part parts ≡ 0
      → AreCurrentParts limits nodes parts → AreCurrentParts limits more parts
  current-more nodes more [] grown none current = tt
  current-more nodes more (p ∷ parts) grown none current =
      let first = count-first holder_part p parts in (
        record {
          same_slots = current.0.same_slots;
          front = extends-on p.seen nodes more current.0.front grown;
          whole = λ acts. absurd (omega (arith, none, first, ap one_if acts));
        },
        current-more nodes more parts grown (omega (arith, none, first)) current.1,
      )
