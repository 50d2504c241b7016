-- Seats as they are dealt out, one after the other, and gathered again.
use Rattle.std.proofs.Common.{◌≡◌, ℕ, zero, suc, ◌+◌, ◌-◌, ◌<◌, List, [], ◌∷◌, ◌++◌, length, map, refl, sym, ap, ◌∙◌, subst, arith}
use Rattle.std.specs.List.{All}
use Rattle.atomic_table.specs.Seated.{TableId}
use Rattle.hx_count.specs.declared.views.Limits.{Limits}
use Rattle.hx_count.specs.Counted.{Seated, part, view, new_parts, all_but_first, only_first, joined}
use Rattle.hx_count.specs.Machine.{HasNothing}
use Rattle.hx_count.specs.Seats.{Origin, Seat, seat, origin, own, seat_of, first_part, part_of, new_seats, IsNew}
use Rattle.hx_count.proofs.MachineLaws.{start-nothing}
use Rattle.hx_count.proofs.PartLaws.{first-new, rest-new}

-- one new part
pub one-new : (limits : Limits) (worker : ℕ) (me : Seated) → me ≡ (view (part limits worker [] ∷ []), []) → IsNew me
one-new limits worker me same = subst IsNew (sym same) refl

-- the first seat while i seats are dealt: the parts of the others
pub rest-parts : (limits : Limits) (dealt count : ℕ) (me after : Seated) → me ≡ (view (new_parts limits dealt count), [])
    → after ≡ (all_but_first me.0, me.1)
    → after ≡ (view (new_parts limits (dealt + 1) (count - 1)), [])
rest-parts limits dealt count me after same cut = cut
    ∙ (ap (λ (m : Seated). (all_but_first m.0, m.1)) same ∙ λ k. (view (rest-new limits dealt count k), []))

pub first-parts : (limits : Limits) (dealt count : ℕ) (me new : Seated) → 0 < count → me ≡ (view (new_parts limits dealt count), [])
    → new ≡ (only_first me.0, [])
    → new ≡ (view (part limits dealt [] ∷ []), [])
first-parts limits dealt count me new more same cut = cut
    ∙ (ap (λ (m : Seated). (only_first m.0, [])) same ∙ λ k. (view (first-new limits dealt count more k), []))

-- one seat more is dealt
seats-more : (made : Origin) (first count : ℕ) → new_seats made first count
    ++ seat made (first + count) [] ∷ [] ≡ new_seats made first (count + 1)
seats-more made first zero = let e : first + 0 ≡ first = omega arith in ap (λ n. seat made n [] ∷ []) e
seats-more made first (suc count) =
    let e : first + suc count ≡ first + 1 + count = omega arith in let one : suc count + 1 ≡ suc (count + 1) = omega arith in
    ap (λ n. seat made first [] ∷ (new_seats made (first + 1) count ++ seat made n [] ∷ [])) e
    ∙ (ap (λ l. seat made first [] ∷ l) (seats-more made (first + 1) count) ∙ ap (new_seats made first) (sym one))

pub dealt-more : (made : Origin) (limits : Limits) (table : TableId) (dealt : ℕ) (me : Seated) (seats after : List Seat)
    → made ≡ origin table limits → me ≡ (view (part limits dealt [] ∷ []), [])
    → seats ≡ new_seats made 0 dealt → after ≡ seats ++ seat_of table (first_part me.0) ∷ [] → after ≡ new_seats made 0 (dealt + 1)
dealt-more made limits table dealt me seats after is_made one were pushed =
    let new : seat_of table (first_part me.0) ≡ seat made dealt [] = ap (λ (m : Seated). seat_of table (first_part m.0)) one
    ∙ ap (λ (o : Origin). seat o dealt []) (sym is_made) in
    let zero_first : 0 + dealt ≡ dealt = omega arith in
    pushed ∙ ((λ k. were k ++ new k ∷ [])
    ∙ (ap (λ n. new_seats made 0 dealt ++ seat made n [] ∷ []) (sym zero_first) ∙ seats-more made 0 dealt))

-- ---- seats that come back

-- the parts of one seat more, which come first
pub joined-parts : (me other after : Seated) (one : Seat) (done : List Seat) → me ≡ (view (map part_of done), [])
    → other ≡ (view (part_of one ∷ []), []) → after ≡ (joined me.0 other.0, me.1)
    → after ≡ (view (map part_of (one ∷ done)), [])
joined-parts me other after one done were its joins = joins ∙ λ k. (joined (were k).0 (its k).0, (were k).1)

pub length-new : (made : Origin) (first count : ℕ) → length (new_seats made first count) ≡ count
length-new made first zero = refl
length-new made first (suc count) = ap suc (length-new made (first + 1) count)

pub new-made : (made : Origin) (first count : ℕ) → All (λ (s : Seat). s.made ≡ made) (new_seats made first count)
new-made made first zero k d less = absurd (omega arith)
new-made made first (suc count) zero d less = refl
new-made made first (suc count) (suc k) d less = new-made made (first + 1) count k d (omega arith)

-- a new seat's worker has nothing
pub new-nothing : (made : Origin) (first count : ℕ) → All (λ (s : Seat). HasNothing (own s)) (new_seats made first count)
new-nothing made first zero k d less = absurd (omega arith)
new-nothing made first (suc count) zero d less = start-nothing made.limits.budget made.limits.words made.limits.workers first
new-nothing made first (suc count) (suc k) d less = new-nothing made (first + 1) count k d (omega arith)
