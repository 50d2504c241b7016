-- What a seat is before and after each of its steps, and seats that are dealt out and come back.
use Rattle.std.proofs.Common.{◌≡◌, ℕ, zero, suc, ◌+◌, ◌-◌, ◌*◌, ◌%◌, ◌<◌, ◌≤◌, eqb, false, List, [], ◌∷◌, ◌++◌, length, map, take, drop}
use Rattle.std.proofs.Common.{replicate, refl, sym, ap, ◌∙◌, subst, arith, Option, Some}
use Rattle.std.proofs.lemmas.List.{replicate-append-replicate}
use mathlib.Core.Option.{none}
use prog.Atomic.{either}
use Rattle.atomic_table.specs.Table.{step, rest, Allows}
use Rattle.hx_tree.specs.declared.nodes.Node.{Node}
use Rattle.hx_tree.specs.Entries.{Extends}
use Rattle.hx_book.specs.declared.books.TheConstants.{MOST_SLOTS}
use Rattle.hx_book.specs.Entries.{Contents, contents, IsBook}
use Rattle.hx_share.specs.declared.views.Limits.{Limits}
use Rattle.hx_share.specs.declared.views.Role.{Role}
use Rattle.hx_share.specs.declared.views.Role.TheVariants.{Note, Waiting}
use Rattle.hx_share.specs.declared.views.Part.{Part}
use Rattle.hx_share.specs.OneList.{part, view, has_book, IsOneList, Seated, alone, acting, first_part, IsTaken, takes_book, gives_back}
use Rattle.hx_share.specs.OneList.{settles, all_but_first, only_first, joined}
use Rattle.hx_share.specs.Readers.{Reader, part_of, ReaderKeeps}
use Rattle.hx_share.proofs.Keeps.{takes-keep, gives-keep, settles-keep}

-- ---- a seat before its step

module _ (key : Limits) (room : ℕ) (same : room ≡ key.slots) (slots id : ℕ) (me : Seated) where
  pub may-take : (seen : List Node) (old new : ℕ) → me ≡ alone room Waiting seen → old % 2 ≡ 0 → new ≡ old + 1
      → Allows (IsOneList key) slots id me 0 (λ n. either (eqb n old) new n) (takes_book (step slots 0 old new none) me)
  may-take seen old new is even next =
      subst (λ (m : Seated). Allows (IsOneList key) slots id m 0 (λ n. either (eqb n old) new n) (takes_book (step slots 0 old new none) m))
      (sym (is ∙ λ k. alone (same k) Waiting seen))
      (takes-keep key slots id seen old new even next)

  pub may-give : (seen nodes : List Node) (new : ℕ) → me ≡ acting room seen (Some (contents room nodes)) → Extends seen nodes
      → length nodes ≤ room → new ≡ 2 * length nodes
      → Allows (IsOneList key) slots id me 0 (λ _. new) (λ _. gives_back (step slots 0 new 0 none) me new)
  may-give seen nodes new is grown few twice =
      subst (λ (m : Seated). Allows (IsOneList key) slots id m 0 (λ _. new) (λ _. gives_back (step slots 0 new 0 none) m new))
      (sym (is ∙ λ k. acting (same k) seen (Some (contents (same k) nodes))))
      (gives-keep key slots id seen nodes new grown (omega (arith, few, same)) twice)

  pub may-settle : (role : Role) (told own : List Node) → me ≡ (view (part room Note told ∷ part room role own ∷ []), [])
      → has_book role ≡ false
      → Allows (IsOneList key) slots id me 0 (λ n. n) (settles (step slots 0 0 0 none) me)
  may-settle role told own is idle =
      subst (λ (m : Seated). Allows (IsOneList key) slots id m 0 (λ n. n) (settles (step slots 0 0 0 none) m))
      (sym (is ∙ λ k. (view (part (same k) Note told ∷ part (same k) role own ∷ []), [])))
      (settles-keep key slots id role told own idle)

-- ---- what was told of a step

pub taken-told : (room : ℕ) (me new : Seated) (seen : List Node) → me ≡ alone room Waiting seen
    → IsTaken (first_part me.0).slots (first_part me.0).seen new → IsTaken room seen new
taken-told room me new seen is told = subst (λ (m : Seated). IsTaken (first_part m.0).slots (first_part m.0).seen new) is told

-- the slot that is out with a seat
pub has-slot : (out : List (ℕ × Option Contents)) (held : Option Contents) (more : List (ℕ × Option Contents)) → out ≡ (0, held) ∷ more
    → (old : Option Contents) × (out ≡ (0, old) ∷ rest out)
has-slot out held more is = (held, is ∙ ap (λ (l : List (ℕ × Option Contents)). (0, held) ∷ rest l) (sym is))

-- ---- the fields of a seat and of a note

pub alone-keeps : (room : ℕ) (role : Role) (nodes : List Node) (count : ℕ) (me : Seated) → me ≡ alone room role nodes → count ≡ length nodes
    → IsBook (contents room nodes) → ReaderKeeps role me count
alone-keeps room role nodes count me is counted book =
    subst (λ (m : Seated). ReaderKeeps role m count) (sym is) (record { whole = refl; counted = sym counted; book = book })

pub alone-seen : (room : ℕ) (role : Role) (nodes : List Node) (me : Seated) → me ≡ alone room role nodes → (first_part me.0).seen ≡ nodes
alone-seen room role nodes me is = ap (λ (m : Seated). (first_part m.0).seen) is

pub acting-seen : (room : ℕ) (nodes : List Node) (held : Option Contents) (me : Seated) → me ≡ acting room nodes held
    → (first_part me.0).seen ≡ nodes
acting-seen room nodes held me is = ap (λ (m : Seated). (first_part m.0).seen) is

nothing-book : (room : ℕ) → room ≤ MOST_SLOTS → IsBook (contents room [])
nothing-book room small =
    record { held = omega arith; small = small; right = λ k. tt; distinct = λ board mover one other first second. cc (first.there) }

pub new-keeps : (me : Seated) → me ≡ alone (first_part me.0).slots Waiting [] → (first_part me.0).slots ≤ MOST_SLOTS
    → ReaderKeeps Waiting me 0
new-keeps me is small = alone-keeps (first_part me.0).slots Waiting [] 0 me is refl (nothing-book (first_part me.0).slots small)

-- ---- seats that are dealt out

rest-replicate : (count : ℕ) (p : Part) → drop 1 (replicate count p) ≡ replicate (count - 1) p
rest-replicate zero p = refl
rest-replicate (suc count) p = let less : count ≡ suc count - 1 = omega arith in ap (λ n. replicate n p) less

first-replicate : (count : ℕ) (p : Part) → 0 < count → take 1 (replicate count p) ≡ p ∷ []
first-replicate zero p some = absurd (omega arith)
first-replicate (suc count) p some = refl

-- the first seat while seats are dealt out
pub rest-parts : (count : ℕ) (p : Part) (me after : Seated) → me ≡ (view (replicate count p), []) → after ≡ (all_but_first me.0, me.1)
    → after ≡ (view (replicate (count - 1) p), [])
rest-parts count p me after is cut = cut ∙ (ap (λ (m : Seated). (all_but_first m.0, m.1)) is ∙ λ k. (view (rest-replicate count p k), []))

pub first-parts : (count : ℕ) (p : Part) (me new : Seated) → 0 < count → me ≡ (view (replicate count p), []) → new ≡ (only_first me.0, [])
    → new ≡ (view (p ∷ []), [])
first-parts count p me new some is cut = cut
    ∙ (ap (λ (m : Seated). (only_first m.0, [])) is ∙ λ k. (view (first-replicate count p some k), []))

pub dealt-more : (count : ℕ) (r new : Reader) (seats after : List Reader) → seats ≡ replicate count r → new ≡ r → after ≡ seats ++ new ∷ []
    → after ≡ replicate (count + 1) r
dealt-more count r new seats after were is pushed = pushed ∙ ((λ k. were k ++ is k ∷ []) ∙ replicate-append-replicate count 1 r)

-- ---- seats that come back

-- the parts of one seat more, which come first
pub joined-parts : (me other after : Seated) (one : Reader) (done : List Reader) → me ≡ (view (map part_of done), [])
    → other ≡ (view (part_of one ∷ []), []) → after ≡ (joined me.0 other.0, me.1)
    → after ≡ (view (map part_of (one ∷ done)), [])
joined-parts me other after one done were its joins = joins ∙ λ k. (joined (were k).0 (its k).0, (were k).1)
