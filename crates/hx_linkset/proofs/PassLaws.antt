-- The pass of a play over the rings.
use Rattle.std.proofs.lemmas.List.{get_or_push, get_or-set_same, get_or-set_other, length-set}
use Rattle.std.proofs.lemmas.Grind.{reverse_onto}
use Rattle.std.proofs.lemmas.Bool.{false≢true, cases_eq, or_left, or_right, or_cases}
use Rattle.std.proofs.lemmas.Bool.Decides.{nat_tests}
use Rattle.std.proofs.lemmas.Option.{slice_get_within, same_Some}
use Rattle.std.proofs.Common.{◌≡◌, ◌≢◌, ℕ, ◌+◌, ◌-◌, ◌<◌, ◌≤◌, Bool, true, false, List, [], ◌∷◌, ◌++◌, length, reverse, set, get_or, refl}
use Rattle.std.proofs.Common.{sym, ap, ◌∙◌, subst, inl, inr, Some, Option, ◌⊎◌, ⊎_elim, arith, append_assoc, if◌then◌else◌, append-nil}
use Rattle.std.proofs.Common.{zero, suc, length-append, eqb-true, eq-eqb}
use Rattle.std.specs.Prelude.{slice_get, nat_lt}
use Rattle.hx_board.specs.declared.colours.Colour.{Colour}
use Rattle.hx_board.specs.Positions.{Board}
use Rattle.hx_link.specs.declared.links.Link.{Link}
use Rattle.hx_linkset.specs.States.{IsLive}
use Rattle.hx_linkset.specs.Rings.{AreRings, Rings, unlinked, grown, IsInside}
use Rattle.hx_linkset.specs.Held.{head_of, head_or, head_at, IsLinked, RingsHold, relinked_all, CanRelink, IsKeptBelow, AreAllDropped}
use Rattle.hx_linkset.specs.Held.{IsPassed, LogHolds, IsLiveThere}
use Rattle.hx_linkset.proofs.RingLaws.{IsBetween, rings-grown, rings-unlinked, after_other, before_other, relinked-unlinked}
use Rattle.hx_linkset.proofs.RingLaws.{inside-unlinked}
use Rattle.hx_board.proofs.ListLaws.{get-there, get-push, get-push_before, get-push_last}
use Rattle.hx_linkset.proofs.LogLaws.{log-less, log-push, log-room_more}

pub reverse-first : (x : ℕ) (xs : List ℕ) → reverse (x ∷ xs) ≡ reverse xs ++ x ∷ []
reverse-first x xs = reverse_onto xs x []

choice : (b : Bool) (x y : ℕ) → b ≡ false → (if b then x else y) ≡ y
choice true x y e = absurd (false≢true (sym e))
choice false x y e = refl

not_below : (a b : ℕ) → b ≤ a → nat_lt a b ≡ false
not_below a b le = grind (arith, nat_tests)

pub head_at-link : (links : List Link) (place : ℕ) (link : Link) → slice_get links place ≡ Some link
    → head_at links (30258 + place) ≡ head_of link
unfolding head_at
head_at-link links place link e =
    choice (nat_lt (30258 + place) 30258) (30258 + place) _ (not_below (30258 + place) 30258 (omega arith))
    ∙ ap (λ (o : Option Link). head_or o (30258 + place))
    (ap (λ n. slice_get links n) (let same : 30258 + place - 30258 ≡ place = omega arith in same) ∙ e)

-- rings of the same linked nodes
pub rings-same : (f g h : ℕ → ℕ) (P Q : ℕ → Type 0) → ((v : ℕ) → P v → Q v) → ((v : ℕ) → Q v → P v) → AreRings f g h P → AreRings f g h Q
rings-same f g h P Q to from r = record {
  head_linked = λ v k. to (f v) (r.head_linked v (from v k));
  head_own = λ v k. r.head_own v (from v k);
  above = λ v k. r.above v (from v k);
  next_linked = λ v k. to (g v) (r.next_linked v (from v k));
  previous_linked = λ v k. to (h v) (r.previous_linked v (from v k));
  same_head = λ v k. r.same_head v (from v k);
  back = λ v k. r.back v (from v k);
  forth = λ v k. r.forth v (from v k);
  clear = λ v u k l same. r.clear v u (from v k) (from u l) same;
}

module _ (links : List Link) (Has : ℕ → Link → Type 0) where
  pub linked-small : (v : ℕ) → IsLinked links Has v → v < 30258 + length links
  linked-small v (inl lt) = omega arith
  linked-small v (inr w) = omega (arith, w.1.1.0, slice_get_within links w.0 w.1.0 w.1.1.1.0)

  module _ (rings : Rings) (hold : RingsHold links Has rings) (place : ℕ) (link : Link) (there : slice_get links place ≡ Some link)
      (has : Has place link) (small : head_of link < 30258) where
    abbrev node : ℕ
    node = 30258 + place

    linked : IsLinked links Has node
    linked = inr (place, (link, (refl, (there, has))))

    inner : head_at links node ≢ node
    inner e = absurd (omega (arith, head_at-link links place link there, e, small))

    before_less : get_or rings.previous node 0 < 30258 + length links
    before_less = linked-small _ (hold.rings_ok.previous_linked node linked)

    after_less : get_or rings.next node 0 < 30258 + length links
    after_less = linked-small _ (hold.rings_ok.next_linked node linked)

    pub node-inside : IsInside rings node
    node-inside = record {
      as_long = hold.previous_long ∙ sym hold.next_long;
      small = omega (arith, hold.next_long, linked-small node linked);
      before_inside = omega (arith, hold.next_long, before_less);
      after_inside = omega (arith, hold.next_long, after_less);
    }

    pub node-between : IsBetween rings node
    node-between = record {
      before_small = omega (arith, hold.next_long, before_less);
      after_small = omega (arith, hold.previous_long, after_less);
      before_other = before_other _ _ _ _ hold.rings_ok node linked inner;
      after_other = after_other _ _ _ _ hold.rings_ok node linked inner;
      next_of_before = hold.rings_ok.forth node linked;
      previous_of_after = hold.rings_ok.back node linked;
    }

    pub hold-unlinked : (Less : ℕ → Link → Type 0) → ((v : ℕ) → IsLinked links Less v → v ≢ node)
        → ((v : ℕ) → IsLinked links Less v → IsLinked links Has v) → ((v : ℕ) → v ≢ node → IsLinked links Has v → IsLinked links Less v)
        → RingsHold links Less (unlinked rings node)
    hold-unlinked Less other was stays =
        let p : ℕ = get_or rings.previous node 0 in
        let n : ℕ = get_or rings.next node 0 in
        record {
          rings_ok = rings-unlinked (head_at links) (λ v. get_or rings.next v 0) (λ v. get_or rings.previous v 0)
              (IsLinked links Has) hold.rings_ok node linked inner
              (λ v. get_or (set rings.next p n) v 0) (λ v. get_or (set rings.previous n p) v 0) (IsLinked links Less) other was stays
              (get_or-set_same rings.next p n 0 (omega (arith, hold.next_long, before_less)))
              (λ v ne. get_or-set_other rings.next p v n 0 ne)
              (get_or-set_same rings.previous n p 0 (omega (arith, hold.previous_long, after_less)))
              (λ v ne. get_or-set_other rings.previous n v p 0 ne);
          next_long = length-set rings.next p n ∙ hold.next_long;
          previous_long = length-set rings.previous n p ∙ hold.previous_long;
        }

module _ (links : List Link) (before after : Board) (player : Colour) (bound : ℕ) (link : Link)
    (there : slice_get links bound ≡ Some link) where
  abbrev Now : ℕ → Link → Type 0
  Now = IsKeptBelow before after player bound

  abbrev Next : ℕ → Link → Type 0
  Next = IsKeptBelow before after player (bound + 1)

  abbrev Dropped : ℕ → List ℕ → Type 0
  Dropped = AreAllDropped links before after player

  less : (place : ℕ) (l : Link) → Next place l → Now place l
  less place l h = (h.0, λ lt. h.1 (omega arith))

  was : (v : ℕ) → IsLinked links Next v → IsLinked links Now v
  was v (inl lt) = inl lt
  was v (inr w) = inr (w.0, (w.1.0, (w.1.1.0, (w.1.1.1.0, (w.1.1.1.1.0, λ lt. w.1.1.1.1.1 (omega arith))))))

  -- the link at the bound is this one
  at_bound : (place : ℕ) (l : Link) → place ≡ bound → slice_get links place ≡ Some l → l ≡ link
  at_bound place l e at = same_Some l link (sym at ∙ (ap (λ n. slice_get links n) e ∙ there))

  stays_if : (v : ℕ) → ((l : Link) → v ≡ 30258 + bound → l ≡ link → IsLive before player l → IsLive after player l) → IsLinked links Now v
      → IsLinked links Next v
  stays_if v kept (inl lt) = inl lt
  stays_if v kept (inr w) = inr (w.0, (w.1.0, (w.1.1.0, (w.1.1.1.0, (w.1.1.1.1.0, λ lt. by_case lt (cases_eq w.0 bound))))))
    where
      by_case : w.0 < bound + 1 → (w.0 ≡ bound) ⊎ (w.0 ≡ bound → ⊥) → IsLive after player w.1.0
      by_case lt (inl e) = kept w.1.0 (w.1.1.0 ∙ ap (λ n. 30258 + n) e) (at_bound w.0 w.1.0 e w.1.1.1.0) w.1.1.1.1.0
      by_case lt (inr ne) = w.1.1.1.1.1 (omega arith)

  out : (IsLive after player link → ⊥) → (v : ℕ) → IsLinked links Next v → v ≢ 30258 + bound
  out dead v (inl lt) e = absurd (omega arith)
  out dead v (inr w) e =
      let here : w.0 ≡ bound = omega (arith, w.1.1.0, e) in
      let P : Link → Type 0 = λ l. IsLive after player l in
      dead (subst P (at_bound w.0 w.1.0 here w.1.1.1.0) (w.1.1.1.1.1 (omega (arith, here))))

  live_still : (IsLive before player link → IsLive after player link) → (l : Link) → l ≡ link → IsLive before player l
      → IsLive after player l
  live_still kept l same live =
      let P : Link → Type 0 = λ x. IsLive before player x in
      let Q : Link → Type 0 = λ x. IsLive after player x in
      subst Q (sym same) (kept (subst P same live))

  dropped-same : (dropped : List ℕ) → (IsLive before player link → IsLive after player link) → Dropped bound dropped
      → Dropped (bound + 1) dropped
  dropped-same dropped kept d = record {
    were_live = d.were_live;
    all = λ place l at lt live. ⊎_elim
        (λ e. inl (live_still kept l (at_bound place l e at) live))
        (λ ne. d.all place l at (omega arith) live)
        (cases_eq place bound);
  }

  dropped-more : (dropped : List ℕ) → IsLive before player link → Dropped bound dropped → Dropped (bound + 1) (bound ∷ dropped)
  dropped-more dropped live d = record {
    were_live = λ place k. ⊎_elim
        (λ e. (link, (ap (λ n. slice_get links n) (eqb-true place bound e) ∙ there, live)))
        (λ rest. d.were_live place rest)
        (or_cases _ _ k);
    all = λ place l at lt was_live. ⊎_elim
        (λ e. inr (or_left _ _ (eq-eqb place bound e)))
        (λ ne. ⊎_elim (λ still. inl still) (λ k. inr (or_right _ _ k)) (d.all place l at (omega arith) was_live))
        (cases_eq place bound);
  }

  module _ (old new : Rings) (log log' : List ℕ) (p : IsPassed links before after player bound old new log log') where
    -- a link that is not live before, or is live after, stays as it is
    pub passed-kept : (IsLive before player link → IsLive after player link)
        → IsPassed links before after player (bound + 1) old new log log'
    passed-kept kept = record {
      hold = record {
        rings_ok = rings-same _ _ _ _ _ (λ v. stays_if v (λ l e same live. live_still kept l same live)) was p.hold.rings_ok;
        next_long = p.hold.next_long;
        previous_long = p.hold.previous_long;
      };
      log_ok = log-less links Now Next less log' p.log_ok;
      dropped = p.dropped;
      logged = p.logged;
      can = p.can;
      back = p.back;
      all_dropped = dropped-same p.dropped kept p.all_dropped;
    }

    module _ (live : IsLive before player link) (small : head_of link < 30258) where
      pub passed-room : length log' < length links
      passed-room = log-room_more links Now log' p.log_ok bound link there (live, λ lt. absurd (omega arith))

      pub passed-inside : IsInside new (30258 + bound)
      passed-inside = node-inside links Now new p.hold bound link there (live, λ lt. absurd (omega arith)) small

      -- a link that is live before and not after is taken out and logged
      pub passed-dropped : (IsLive after player link → ⊥)
          → IsPassed links before after player (bound + 1) old (unlinked new (30258 + bound)) log (log' ++ bound ∷ [])
      passed-dropped dead = record {
        hold = hold-unlinked links Now new p.hold bound link there (live, λ lt. absurd (omega arith)) small Next (out dead) was
            (λ v ne. stays_if v (λ l e same live'. absurd (ne e)));
        log_ok = log-push links Now Next less log' p.log_ok bound link there (live, λ lt. absurd (omega arith))
            (λ next. dead (next.1 (omega arith)));
        dropped = bound ∷ p.dropped;
        logged = ap (λ (xs : List ℕ). xs ++ bound ∷ []) p.logged
            ∙ (append_assoc log (reverse p.dropped) (bound ∷ []) ∙ ap (λ (xs : List ℕ). log ++ xs) (sym (reverse-first bound p.dropped)));
        can = (
          inside-unlinked new (30258 + bound) passed-inside
              (node-between links Now new p.hold bound link there (live, λ lt. absurd (omega arith)) small),
          let P : Rings → Type 0 = λ r. CanRelink r p.dropped in
              subst P (sym (relinked-unlinked new (30258 + bound)
              (node-between links Now new p.hold bound link there (live, λ lt. absurd (omega arith)) small))) p.can,
        );
        back = ap (λ (r : Rings). relinked_all r p.dropped)
            (relinked-unlinked new (30258 + bound)
            (node-between links Now new p.hold bound link there (live, λ lt. absurd (omega arith)) small)) ∙ p.back;
        all_dropped = dropped-more p.dropped live p.all_dropped;
      }

pub passed-none : (links : List Link) (before after : Board) (player : Colour) (rings : Rings) (log : List ℕ)
    → RingsHold links (IsLiveThere before player) rings → LogHolds links (IsLiveThere before player) log
    → IsPassed links before after player 0 rings rings log log
passed-none links before after player rings log h logged = record {
  hold = record {
    rings_ok = rings-same _ _ _ _ _
        (λ v k. ⊎_elim inl (λ w. inr (w.0, (w.1.0, (w.1.1.0, (w.1.1.1.0, (w.1.1.1.1, λ lt. absurd (omega arith))))))) k)
        (λ v k. ⊎_elim inl (λ w. inr (w.0, (w.1.0, (w.1.1.0, (w.1.1.1.0, w.1.1.1.1.0))))) k) h.rings_ok;
    next_long = h.next_long;
    previous_long = h.previous_long;
  };
  log_ok = log-less links (IsLiveThere before player) (IsKeptBelow before after player 0) (λ place l k. k.0) log logged;
  dropped = [];
  logged = sym (append-nil log);
  can = tt;
  back = refl;
  all_dropped = record { were_live = λ place k. absurd (false≢true k); all = λ place l at lt live. absurd (omega arith) };
}

-- links that stay live where they were are passed by
passed-on : (links : List Link) (before after : Board) (player : Colour) (old new : Rings) (log log' : List ℕ) (count bound : ℕ)
    → bound + count ≤ length links → ((place : ℕ) (link : Link) → bound ≤ place → place < bound + count
    → slice_get links place ≡ Some link → IsLive before player link → IsLive after player link)
    → IsPassed links before after player bound old new log log' → IsPassed links before after player (bound + count) old new log log'
passed-on links before after player old new log log' zero bound inside kept p =
    let same : bound ≡ bound + 0 = omega arith in
    let P : ℕ → Type 0 = λ n. IsPassed links before after player n old new log log' in subst P same p
passed-on links before after player old new log log' (suc n) bound inside kept p =
    let there = get-there links bound (omega (arith, inside)) in
    let same : bound + 1 + n ≡ bound + suc n = omega arith in
    let P : ℕ → Type 0 = λ k. IsPassed links before after player k old new log log' in
    subst P same (passed-on links before after player old new log log' n (bound + 1) (omega (arith, inside))
    (λ place link low high. kept place link (omega (arith, low)) (omega (arith, high)))
    (passed-kept links before after player bound there.0 there.1 old new log log' p
    (kept bound there.0 (omega arith) (omega arith) there.1)))

pub passed-over : (links : List Link) (before after : Board) (player : Colour) (old new : Rings) (log log' : List ℕ) (bound place : ℕ)
    → bound ≤ place → place ≤ length links → ((other : ℕ) (link : Link) → bound ≤ other → other < place
    → slice_get links other ≡ Some link → IsLive before player link → IsLive after player link)
    → IsPassed links before after player bound old new log log' → IsPassed links before after player place old new log log'
passed-over links before after player old new log log' bound place low inside kept p =
    let same : bound + (place - bound) ≡ place = omega (arith, low) in
    let P : ℕ → Type 0 = λ k. IsPassed links before after player k old new log log' in
    subst P same (passed-on links before after player old new log log' (place - bound) bound (omega (arith, low, inside))
    (λ other link le lt. kept other link le (omega (arith, lt, low))) p)

-- a link more
choice-true : (b : Bool) (x y : ℕ) → b ≡ true → (if b then x else y) ≡ x
choice-true true x y e = refl
choice-true false x y e = absurd (false≢true e)

below : (a b : ℕ) → a < b → nat_lt a b ≡ true
below a b lt = grind (arith, nat_tests)

pub head_at-low : (links : List Link) (v : ℕ) → v < 30258 → head_at links v ≡ v
unfolding head_at
head_at-low links v lt = choice-true (nat_lt v 30258) v _ (below v 30258 lt)

get-push_other : (xs : List ℕ) (y v : ℕ) → v ≢ length xs → get_or (xs ++ y ∷ []) v 0 ≡ get_or xs v 0
get-push_other [] y zero ne = absurd (ne refl)
get-push_other [] y (suc v) ne = refl
get-push_other (x ∷ xs) y zero ne = refl
get-push_other (x ∷ xs) y (suc v) ne = get-push_other xs y v (λ e. ne (ap suc e))

rings-heads : (f f' g h : ℕ → ℕ) (P : ℕ → Type 0) → ((v : ℕ) → P v → f' v ≡ f v) → AreRings f g h P → AreRings f' g h P
rings-heads f f' g h P same r = record {
  head_linked = λ v k. let Q : ℕ → Type 0 = λ w. P w in subst Q (sym (same v k)) (r.head_linked v k);
  head_own = λ v k. ap f' (same v k) ∙ (same (f v) (r.head_linked v k) ∙ (r.head_own v k ∙ sym (same v k)));
  above = λ v k. omega (arith, same v k, r.above v k);
  next_linked = r.next_linked;
  previous_linked = r.previous_linked;
  same_head = λ v k. same (g v) (r.next_linked v k) ∙ (r.same_head v k ∙ sym (same v k));
  back = r.back;
  forth = r.forth;
  clear = λ v u k l e. r.clear v u k l (sym (same u l) ∙ (e ∙ same v k));
}

module _ (links : List Link) (board : Board) (player : Colour) (rings : Rings) (hold : RingsHold links (IsLiveThere board player) rings)
    (link : Link) (live : IsLive board player link) (small : head_of link < 30258) where
  abbrev more : List Link
  more = links ++ link ∷ []

  abbrev h : ℕ
  h = head_of link

  abbrev last : ℕ
  last = get_or rings.previous h 0

  abbrev end : ℕ
  end = length rings.next

  heads_same : (v : ℕ) → IsLinked links (IsLiveThere board player) v → head_at more v ≡ head_at links v
  heads_same v (inl lt) = head_at-low more v lt ∙ sym (head_at-low links v lt)
  heads_same v (inr w) = ap (head_at more) w.1.1.0
      ∙ (head_at-link more w.0 w.1.0 (get-push_before links link w.0 w.1.0 w.1.1.1.0)
      ∙ (sym (head_at-link links w.0 w.1.0 w.1.1.1.0) ∙ ap (head_at links) (sym w.1.1.0)))

  end_is : end ≡ 30258 + length links
  end_is = hold.next_long

  last_linked : IsLinked links (IsLiveThere board player) last
  last_linked = hold.rings_ok.previous_linked h (inl small)

  old : (v : ℕ) → v ≢ end → IsLinked more (IsLiveThere board player) v → IsLinked links (IsLiveThere board player) v
  old v ne (inl lt) = inl lt
  old v ne (inr w) = ⊎_elim
      (λ k. inr (w.0, (w.1.0, (w.1.1.0, (k, w.1.1.1.1)))))
      (λ k. absurd (ne (omega (arith, w.1.1.0, k.0, end_is))))
      (get-push links link w.1.0 w.0 w.1.1.1.0)

  new : (v : ℕ) → IsLinked links (IsLiveThere board player) v → IsLinked more (IsLiveThere board player) v
  new v (inl lt) = inl lt
  new v (inr w) = inr (w.0, (w.1.0, (w.1.1.0, (get-push_before links link w.0 w.1.0 w.1.1.1.0, w.1.1.1.1))))

  pub hold-grown : RingsHold more (IsLiveThere board player) (grown rings h)
  hold-grown =
      let last_less : last < end = omega (arith, linked-small links (IsLiveThere board player) last last_linked, end_is) in
      let longer : length (set rings.next last end) ≡ end = length-set rings.next last end in
      let longer' : length (set rings.previous h end) ≡ end = length-set rings.previous h end ∙ (hold.previous_long ∙ sym end_is) in
      let other_end : (v : ℕ) → v ≢ end → v ≢ length (set rings.next last end) = λ v ne e. ne (e ∙ longer) in
      let other_end' : (v : ℕ) → v ≢ end → v ≢ length (set rings.previous h end) = λ v ne e. ne (e ∙ longer') in
      let h_less : h < length rings.previous = omega (arith, small, hold.previous_long) in
      let last_other : last ≢ end = λ e. absurd (omega (arith, e, last_less)) in
      let h_other : h ≢ end = λ e. absurd (omega (arith, e, small, end_is)) in
      record {
        rings_ok = rings-grown (head_at more) (λ v. get_or rings.next v 0) (λ v. get_or rings.previous v 0)
            (IsLinked links (IsLiveThere board player))
            (rings-heads _ _ _ _ _ heads_same hold.rings_ok) end h (inl small) (head_at-low more h small)
            (ap (head_at more) end_is ∙ head_at-link more (length links) link (get-push_last links link))
            (λ k. absurd (omega (arith, linked-small links (IsLiveThere board player) end k, end_is)))
            (λ v k. omega (arith, linked-small links (IsLiveThere board player) v k, end_is))
            (λ v. get_or (set rings.next last end ++ h ∷ []) v 0) (λ v. get_or (set rings.previous h end ++ last ∷ []) v 0)
            (IsLinked more (IsLiveThere board player))
            (inr (length links, (link, (end_is, (get-push_last links link, live))))) old new
            (get-push_other (set rings.next last end) h last (other_end last last_other) ∙ get_or-set_same rings.next last end 0 last_less)
            (get_or_push (set rings.next last end) h 0 end longer)
            (λ v nt ne. get-push_other (set rings.next last end) h v (other_end v ne) ∙ get_or-set_other rings.next last v end 0 nt)
            (get-push_other (set rings.previous h end) last h (other_end' h h_other) ∙ get_or-set_same rings.previous h end 0 h_less)
            (get_or_push (set rings.previous h end) last 0 end longer')
            (λ v nh ne. get-push_other (set rings.previous h end) last v (other_end' v ne) ∙ get_or-set_other rings.previous h v end 0 nh);
        next_long = omega (arith, length-append (set rings.next last end) (h ∷ []), longer, end_is, length-append links (link ∷ []));
        previous_long = omega
            (arith, length-append (set rings.previous h end) (last ∷ []), longer', end_is, length-append links (link ∷ []));
      }
