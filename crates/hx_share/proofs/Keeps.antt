-- Each step of the shared book keeps its rule.
use Rattle.std.proofs.Common.{◌≡◌, ◌≢◌, ℕ, ◌+◌, ◌*◌, ◌%◌, ◌≤◌, eqb, false, List, [], ◌∷◌, ◌++◌, length, get_or, set, refl, sym, ap, ◌∙◌}
use Rattle.std.proofs.Common.{subst, ⊎_elim, arith, length-set, get_or-set_same, Option, Some, None}
use Rattle.std.specs.List.{sum_by}
use Rattle.std.proofs.lemmas.List.Sums.{sum_by-cons, sum_by-append}
use mathlib.Core.Option.{none, some, some-ne-none}
use lib.ListN.{get_elem?}
use lib.Seq.{set-get_or}
use prog.Atomic.{either}
use Rattle.atomic_table.specs.Table.{State, Act, step, keeps, takes, gives, Valid, carried_after, stepped, opening, Allows, Splits, Joins}
use Rattle.atomic_table.proofs.Lists.{at_set, at_snoc, set_here, set_else, exchanged}
use Rattle.hx_tree.specs.declared.nodes.Node.{Node}
use Rattle.hx_tree.specs.Entries.{Extends}
use Rattle.hx_book.specs.Entries.{Contents, contents}
use Rattle.hx_share.specs.declared.views.Limits.{Limits}
use Rattle.hx_share.specs.declared.views.Role.{Role}
use Rattle.hx_share.specs.declared.views.Role.TheVariants.{Note, Waiting, Acting}
use Rattle.hx_share.specs.declared.views.View.{View}
use Rattle.hx_share.specs.Fronts.{longer}
use Rattle.hx_share.specs.OneList.{part, view, AreSmall, has_book, seats_of, holders_of, AreCurrentParts, AreCurrent, IsOneList, first_view}
use Rattle.hx_share.specs.OneList.{Seated, alone, acting, takes_book, gives_back, settles, all_but_first, only_first, itself, notes_of}
use Rattle.hx_share.specs.OneList.{joined, no_parts}
use Rattle.hx_count.proofs.Terms.{sum-set, others-none}
use Rattle.hx_tree.proofs.EntryLaws.{extends-itself}
use Rattle.hx_share.proofs.FrontLaws.{longer-begins}
use Rattle.hx_share.proofs.PartLaws.{seat_part, holder_part, count-one, count-two, count-append, count-cut, count-replicate}
use Rattle.hx_share.proofs.PartLaws.{count-replicate_none, seats-notes, holders-notes, current-append, current-first, current-rest}
use Rattle.hx_share.proofs.PartLaws.{current-part, current-notes, current-new, current-more}

abbrev Table : Type 0
Table = State (Option Contents) View

-- what the seat and the table become at a step after which the word is this number
abbrev Goes : Limits → Table → ℕ → Seated → (ℕ → Seated → Type 0) → ℕ → Type 0
Goes limits s id me tells word =
    (w : View) × (act : Act (Option Contents)) × Valid s.homes me.1 act × IsOneList limits (stepped s 0 word id me.1 w act)
    × tells (get_or s.words 0 0) (w, carried_after me.1 act)

current-set : (limits : Limits) (nodes : List Node) (views : List View) (id : ℕ) (w : View) → AreCurrent limits nodes views
    → AreCurrentParts limits nodes w.parts
    → AreCurrent limits nodes (set views id w)
current-set limits nodes views id w all own other u at = ⊎_elim
    (λ (t : (other ≡ id) × (w ≡ u)). subst (λ (v : View). AreCurrentParts limits nodes v.parts) t.1 own)
    (λ (t : (other ≢ id) × (get_elem? views other ≡ some u)). all other u t.1)
    (at_set views id other w u at)

-- ---- a step that leaves the word and the slot as they are

module _ (limits : Limits) (s : Table) (c : IsOneList limits s) (id : ℕ) (v w : View) (there : get_elem? s.views id ≡ some v) where
  pub looked : holders_of w ≡ holders_of v → seats_of w ≡ seats_of v → AreCurrentParts limits c.nodes w.parts
      → IsOneList limits (record { words = set s.words 0 (get_or s.words 0 0); homes = s.homes; views = set s.views id w })
  looked holders seats current =
      let same = set-get_or s.words 0 0 in
      let all_holders : sum_by holders_of (set s.views id w) ≡ sum_by holders_of s.views =
      omega (arith, sum-set holders_of s.views id v w there, holders) in record {
        nodes = c.nodes;
        few = c.few;
        small = c.small;
        one_word = ap length same ∙ c.one_word;
        one_slot = c.one_slot;
        word = omega (arith, ap (λ l. get_or l 0 0) same, c.word, all_holders);
        one_holder = omega (arith, c.one_holder, all_holders);
        home = λ nobody. c.home (omega (arith, nobody, all_holders));
        seats = omega (arith, sum-set seats_of s.views id v w there, seats, c.seats);
        current = current-set limits c.nodes s.views id w c.current current;
      }

-- ---- a seat takes the book

module _ (limits : Limits) (id : ℕ) (seen : List Node) (s : Table) (c : IsOneList limits s)
    (there : get_elem? s.views id ≡ some (view (part limits.slots Waiting seen ∷ []))) where
  abbrev waiting : View
  waiting = view (part limits.slots Waiting seen ∷ [])

  abbrev acts : View
  acts = view (part limits.slots Acting c.nodes ∷ [])

  front : Extends seen c.nodes
  front = (c.current id waiting there).0.front

  more-holders : sum_by holders_of (set s.views id acts) ≡ sum_by holders_of s.views + 1
  more-holders = omega (
    arith,
    sum-set holders_of s.views id waiting acts there,
    count-one holder_part (part limits.slots Waiting seen),
    count-one holder_part (part limits.slots Acting c.nodes),
  )

  same-seats : sum_by seats_of (set s.views id acts) ≡ sum_by seats_of s.views
  same-seats = omega (
    arith,
    sum-set seats_of s.views id waiting acts there,
    count-one seat_part (part limits.slots Waiting seen),
    count-one seat_part (part limits.slots Acting c.nodes),
  )

  taken : (new : ℕ) → sum_by holders_of s.views ≡ 0 → new ≡ get_or s.words 0 0 + 1
      → IsOneList limits (record { words = set s.words 0 new; homes = set s.homes 0 none; views = set s.views id acts })
  taken new nobody next = record {
    nodes = c.nodes;
    few = c.few;
    small = c.small;
    one_word = length-set s.words 0 new ∙ c.one_word;
    one_slot = length-set s.homes 0 none ∙ c.one_slot;
    word = omega (arith, get_or-set_same s.words 0 new 0 (omega (arith, c.one_word)), next, c.word, nobody, more-holders);
    one_holder = omega (arith, nobody, more-holders);
    home = λ none_acts. absurd (omega (arith, none_acts, more-holders));
    seats = same-seats ∙ c.seats;
    current = current-set limits c.nodes s.views id acts c.current
        (record { same_slots = refl; front = extends-itself c.nodes; whole = λ _. refl }, tt);
  }

even-word : (word twice holders : ℕ) → word ≡ 2 * twice + holders → holders ≤ 1 → word % 2 ≡ 0 → holders ≡ 0
even-word word twice holders is one even = omega arith

pub takes-keep : (limits : Limits) (slots id : ℕ) (seen : List Node) (old new : ℕ) → old % 2 ≡ 0 → new ≡ old + 1
    → Allows (IsOneList limits) slots id (alone limits.slots Waiting seen) 0 (λ n. either (eqb n old) new n)
    (takes_book (step slots 0 old new none) (alone limits.slots Waiting seen))
takes-keep limits slots id seen old new even next s c _ there _ =
    let v = view (part limits.slots Waiting seen ∷ []) in
    exchanged (get_or s.words 0 0) old new
    (Goes limits s id (alone limits.slots Waiting seen) (takes_book (step slots 0 old new none) (alone limits.slots Waiting seen)))
    (λ hit. let nobody = even-word (get_or s.words 0 0) (length c.nodes) (sum_by holders_of s.views) c.word c.one_holder
    (ap (λ n. n % 2) hit ∙ even) in (
      acts limits id seen s c there,
      takes 0 (Some (contents limits.slots c.nodes)),
      c.home nobody,
      taken limits id seen s c there new nobody (omega (arith, hit, next)),
      ((λ _. record { nodes = c.nodes; more = front limits id seen s c there; same = refl }), λ miss. absurd (miss hit)),
    ))
    (λ miss. (v, keeps, tt, looked limits s c id v v there refl refl (c.current id v there), ((λ hit. absurd (miss hit)), λ _. refl)))

-- ---- a seat gives back the book

module _ (limits : Limits) (id : ℕ) (seen nodes : List Node) (s : Table) (c : IsOneList limits s)
    (there : get_elem? s.views id ≡ some (view (part limits.slots Acting seen ∷ []))) where
  abbrev had_book : View
  had_book = view (part limits.slots Acting seen ∷ [])

  abbrev gave_back : View
  gave_back = view (part limits.slots Waiting nodes ∷ [])

  own-book : holders_of had_book ≡ 1
  own-book = count-one holder_part (part limits.slots Acting seen)

  -- the seat has seen the whole list
  whole : seen ≡ c.nodes
  whole = (c.current id had_book there).0.whole refl

  no-holders : sum_by holders_of (set s.views id gave_back) ≡ 0
  no-holders = omega (
    arith,
    sum-set holders_of s.views id had_book gave_back there,
    own-book,
    count-one holder_part (part limits.slots Waiting nodes),
    c.one_holder,
  )

  kept-seats : sum_by seats_of (set s.views id gave_back) ≡ sum_by seats_of s.views
  kept-seats = omega (
    arith,
    sum-set seats_of s.views id had_book gave_back there,
    count-one seat_part (part limits.slots Waiting nodes),
    count-one seat_part (part limits.slots Acting seen),
  )

  given : (new : ℕ) → Extends seen nodes → length nodes ≤ limits.slots → new ≡ 2 * length nodes
      → IsOneList limits (record {
        words = set s.words 0 new;
        homes = set s.homes 0 (some (Some (contents limits.slots nodes)));
        views =
            set s.views id gave_back;
      })
  given new grown few is = let longer_now : Extends c.nodes nodes = subst (λ (l : List Node). Extends l nodes) whole grown in record {
    nodes = nodes;
    few = few;
    small = c.small;
    one_word = length-set s.words 0 new ∙ c.one_word;
    one_slot = length-set s.homes 0 (some (Some (contents limits.slots nodes))) ∙ c.one_slot;
    word = omega (arith, get_or-set_same s.words 0 new 0 (omega (arith, c.one_word)), is, no-holders);
    one_holder = omega (arith, no-holders);
    home = λ _. set_here s.homes 0 (some (Some (contents limits.slots nodes))) (omega (arith, c.one_slot));
    seats = kept-seats ∙ c.seats;
    current = λ other u at. ⊎_elim
        (λ (t : (other ≡ id) × (gave_back ≡ u)).
        subst (λ (v : View). AreCurrentParts limits nodes v.parts) t.1
        (current-part limits nodes nodes Waiting refl (extends-itself nodes), tt))
        (λ (t : (other ≢ id) × (get_elem? s.views other ≡ some u)). current-more limits c.nodes nodes u.parts longer_now
        (others-none holders_of s.views id other had_book u no_parts refl c.one_holder own-book t.0 there t.1) (c.current other u t.1))
        (at_set s.views id other gave_back u at);
  }

-- the contents of a slot that is held
same-held : (one other : Contents) → ◌≡◌ {A = List (ℕ × Option Contents)} ((0, Some one) ∷ []) ((0, Some other) ∷ []) → one ≡ other
same-held one other same = let held : Some one ≡ Some other = ap (λ (l : List (ℕ × Option Contents)). (get_or l 0 (0, None)).1) same in cc

pub gives-keep : (limits : Limits) (slots id : ℕ) (seen nodes : List Node) (new : ℕ) → Extends seen nodes → length nodes ≤ limits.slots
    → new ≡ 2 * length nodes
    → Allows (IsOneList limits) slots id (acting limits.slots seen (Some (contents limits.slots nodes))) 0 (λ _. new)
    (λ _. gives_back (step slots 0 new 0 none) (acting limits.slots seen (Some (contents limits.slots nodes))) new)
gives-keep limits slots id seen nodes new grown few is s c _ there _ = (
  view (part limits.slots Waiting nodes ∷ []),
  gives,
  tt,
  given limits id seen nodes s c there new grown few is,
  λ book same. ap (λ (b : Contents). alone limits.slots Waiting b.nodes) (same-held (contents limits.slots nodes) book same),
)

-- ---- a seat has seen what its note has

pub settles-keep : (limits : Limits) (slots id : ℕ) (role : Role) (told own : List Node) → has_book role ≡ false
    → Allows (IsOneList limits) slots id (view (part limits.slots Note told ∷ part limits.slots role own ∷ []), []) 0 (λ n. n)
    (settles (step slots 0 0 0 none) (view (part limits.slots Note told ∷ part limits.slots role own ∷ []), []))
settles-keep limits slots id role told own idle s c _ there _ =
    let note = part limits.slots Note told in let v = view (note ∷ part limits.slots role own ∷ []) in let w =
    view (part limits.slots role (longer own told) ∷ []) in
    let both = c.current id v there in
    let long = longer-begins c.nodes own told both.1.0.front both.0.front in (
      w,
      keeps,
      tt,
      looked limits s c id v w there
          (omega (
            arith,
            count-one holder_part (part limits.slots role (longer own told)),
            count-two holder_part note (part limits.slots role own),
          ))
          (omega (
            arith,
            count-one seat_part (part limits.slots role (longer own told)),
            count-two seat_part note (part limits.slots role own),
          ))
          (current-part limits c.nodes (longer own told) role idle long.front, tt),
      (refl, record { whole = c.nodes; of_one = both.1.0.front; of_other = both.0.front }),
    )

-- ---- seats are split and joined

split-keeps : (limits : Limits) (id : ℕ) (v left right : View) → holders_of left + holders_of right ≡ holders_of v
    → seats_of left + seats_of right ≡ seats_of v
    → ((nodes : List Node) → AreCurrentParts limits nodes v.parts → AreCurrentParts limits nodes left.parts
    × AreCurrentParts limits nodes right.parts)
    → Splits (IsOneList limits) id v left right
split-keeps limits id v left right holders seats current s c there =
    let views = set s.views id left in
    let both : (f : View → ℕ) → sum_by f (views ++ right ∷ []) + f v ≡ sum_by f s.views + f left + f right =
    λ f. omega (arith, sum_by-append f views (right ∷ []), sum_by-cons f right [], sum-set f s.views id v left there) in
    let all_holders : sum_by holders_of (views ++ right ∷ []) ≡ sum_by holders_of s.views = omega (arith, both holders_of, holders) in
    let parts = current c.nodes (c.current id v there) in record {
      nodes = c.nodes;
      few = c.few;
      small = c.small;
      one_word = c.one_word;
      one_slot = c.one_slot;
      word = omega (arith, c.word, all_holders);
      one_holder = omega (arith, c.one_holder, all_holders);
      home = λ nobody. c.home (omega (arith, nobody, all_holders));
      seats = omega (arith, both seats_of, seats, c.seats);
      current = λ other u at. ⊎_elim
          (λ (t : get_elem? views other ≡ some u). current-set limits c.nodes s.views id left c.current parts.0 other u t)
          (λ (t : right ≡ u). subst (λ (w : View). AreCurrentParts limits c.nodes w.parts) t parts.1)
          (at_snoc views right u other at);
    }

pub cuts-keep : (limits : Limits) (id : ℕ) (v : View) → Splits (IsOneList limits) id v (all_but_first v) (only_first v)
cuts-keep limits id v = split-keeps limits id v (all_but_first v) (only_first v)
    (omega (arith, count-cut holder_part v.parts))
    (omega (arith, count-cut seat_part v.parts))
    (λ nodes current. (current-rest limits nodes v.parts current, current-first limits nodes v.parts current))

pub notes-keep : (limits : Limits) (id : ℕ) (v : View) → Splits (IsOneList limits) id v (itself v) (notes_of v)
notes-keep limits id v = split-keeps limits id v (itself v) (notes_of v)
    (omega (arith, holders-notes v.parts))
    (omega (arith, seats-notes v.parts))
    (λ nodes current. (current, current-notes limits nodes v.parts current))

pub joins-keep : (limits : Limits) (id : ℕ) (v : View) (other : ℕ) (w : View) → Joins (IsOneList limits) id v other w (joined v w) no_parts
joins-keep limits id v other w s c there apart also =
    let both = joined v w in let views = set s.views id both in
    let was : get_elem? s.views other ≡ some w = sym (set_else s.views id other both apart) ∙ also in
    let all : (f : View → ℕ) → sum_by f (set views other no_parts) + f w + f v ≡ sum_by f s.views + f both + f no_parts =
    λ f. omega (arith, sum-set f views other w no_parts also, sum-set f s.views id v both there) in
    let all_holders : sum_by holders_of (set views other no_parts) ≡ sum_by holders_of s.views =
    omega (arith, all holders_of, count-append holder_part w.parts v.parts) in record {
      nodes = c.nodes;
      few = c.few;
      small = c.small;
      one_word = c.one_word;
      one_slot = c.one_slot;
      word = omega (arith, c.word, all_holders);
      one_holder = omega (arith, c.one_holder, all_holders);
      home = λ nobody. c.home (omega (arith, nobody, all_holders));
      seats = omega (arith, all seats_of, count-append seat_part w.parts v.parts, c.seats);
      current = current-set limits c.nodes views other no_parts
          (current-set limits c.nodes s.views id both c.current
          (current-append limits c.nodes w.parts v.parts (c.current other w was) (c.current id v there))) tt;
    }

-- ---- the start

pub opens : (limits : Limits) (words : List ℕ) (books : List (Option Contents)) → AreSmall limits → words ≡ 0 ∷ []
    → books ≡ Some (contents limits.slots []) ∷ []
    → IsOneList limits (opening words books (first_view limits))
opens limits words books small zero_word empty_book =
    let seat = part limits.slots Waiting [] in
    let holders : sum_by holders_of (first_view limits ∷ []) ≡ 0 =
    omega (arith, sum_by-cons holders_of (first_view limits) [], count-replicate_none holder_part limits.seats seat refl) in
    subst (λ (l : List ℕ). IsOneList limits (opening l books (first_view limits))) (sym zero_word)
    (subst (λ (l : List (Option Contents)). IsOneList limits (opening (0 ∷ []) l (first_view limits))) (sym empty_book) (record {
      nodes = [];
      few = omega arith;
      small = small;
      one_word = refl;
      one_slot = refl;
      word = omega (arith, holders);
      one_holder = omega (arith, holders);
      home = λ _. refl;
      seats = omega (arith, sum_by-cons seats_of (first_view limits) [], count-replicate seat_part limits.seats seat refl);
      current = λ id u at. ⊎_elim
          (λ (t : get_elem? [] id ≡ some u). absurd (some-ne-none u (sym t)))
          (λ (t : first_view limits ≡ u). subst (λ (w : View). AreCurrentParts limits [] w.parts) t (current-new limits limits.seats))
          (at_snoc [] (first_view limits) u id at);
    }))
