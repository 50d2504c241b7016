-- The pass up: the step of the next marked link, renamed, gives that link after the kept ones, since what it names is
-- marked and stands before it, and so is kept.
use Rattle.std.proofs.Common.{◌≡◌, ℕ, zero, suc, ◌+◌, ◌<◌, ◌≤◌, List, [], ◌∷◌, ◌++◌, length, take, map, set, refl, sym, ap, ◌∙◌, subst, inl}
use Rattle.std.proofs.Common.{inr, Some, ◌⊎◌, ⊎_elim, arith, length-append}
use Rattle.std.specs.Prelude.{slice_get, slice_index}
use Rattle.std.proofs.lemmas.Bool.{cases_eq, cases_lt}
use Rattle.std.proofs.lemmas.List.{length-set, get_or-set_same, get_or-set_other, length-map}
use Rattle.std.proofs.lemmas.Option.{slice_get_within, same_Some}
use Rattle.hx_board.specs.declared.colours.Colour.{Colour}
use Rattle.hx_board.specs.Positions.{Board}
use Rattle.hx_link.specs.declared.links.Link.{Link}
use Rattle.hx_link.specs.declared.steps.Step.{Step}
use Rattle.hx_link.specs.Steps.{StepGives, AreRightSteps}
use Rattle.hx_linkset.specs.States.{State, Names, IsLiveAt, IsRight}
use Rattle.hx_linkset.specs.Marks.{IsMarked, IsFirstMarkFrom}
use Rattle.hx_linkset.specs.Derivations.{IsDerived, AreClosedFrom, AreMarkedUnder, AreKeptBelow, renamed}
use Rattle.hx_board.proofs.ListLaws.{get-map, get-push_before, get-push_last}
use Rattle.hx_linkset.proofs.MarkLaws.{marked-inside}
use Rattle.hx_linkset.proofs.ClosedLaws.{part-before}
use Rattle.hx_linkset.proofs.RenamingLaws.{gives-renamed}

-- right steps and one more
steps_more : (board : Board) (player : Colour) (before : List Link) (steps : List Step) (links : List Link) (step : Step) (link : Link)
    → AreRightSteps board player before steps links
    → StepGives board player links step link → AreRightSteps board player before (steps ++ step ∷ []) (links ++ link ∷ [])
steps_more board player before [] links step link right gives =
    let P : List Link → Type 0 = λ ls. StepGives board player ls step link in
    (link, subst P right gives, ap (λ (ls : List Link). ls ++ link ∷ []) right)
steps_more board player before (first ∷ steps) links step link right gives =
    (right.0, right.1, steps_more board player (before ++ right.0 ∷ []) steps links step link right.2 gives)

-- one element of the first places is there in the whole list
take-get : {A : Type 0} → (n : ℕ) (xs : List A) (place : ℕ) → place < n → slice_get (take n xs) place ≡ slice_get xs place
take-get zero xs place lt = absurd (omega arith)
take-get (suc n) [] place lt = refl
take-get (suc n) (y ∷ ys) zero lt = refl
take-get (suc n) (y ∷ ys) (suc place) lt = take-get n ys place (omega arith)

module _ (player : Colour) (state : State) (marks : List ℕ) where
  pub kept-none : (names : List ℕ) → length names ≡ length state.links → AreKeptBelow player state marks 0 [] names
  kept-none names long = record {
    links = [];
    right = refl;
    steps_of = refl;
    inside = omega arith;
    few = omega arith;
    named = long;
    gives = λ p h lt. absurd (omega arith);
    last = λ p h lt top. absurd (omega arith);
  }

  module _ (r : IsRight player state) (c : AreClosedFrom player state 0 marks) (bound : ℕ) (steps : List Step) (names : List ℕ)
      (k : AreKeptBelow player state marks bound steps names) where
    module _ (place : ℕ) (at : IsFirstMarkFrom marks bound place) (step : Step) (there : slice_get state.steps place ≡ Some step) where
      -- the marked places up to this one are this one and those below the bound
      below : (p : ℕ) → IsMarked marks p → p < place → p < bound
      below p h lt = ⊎_elim (λ l. l) (λ le. absurd (at.first p le lt h)) (cases_lt p bound)

      live : IsLiveAt state.board player state.links place
      live = c.live place at.marked

      in_names : place < length names
      in_names = omega (arith, marked-inside marks place at.marked, c.long, k.named)

      same_part : (part : ℕ) → Names step part → slice_get k.links (slice_index names part) ≡ slice_get (take place state.links) part
      same_part part n =
          let marked : IsMarked marks part = c.closed place step (omega arith) at.marked there part n in
          let lt : part < place = (part-before player state r place step live there part n).0 in
          k.gives part marked (below part marked lt) ∙ sym (take-get place state.links part lt)

      gives_next : StepGives state.board player k.links (renamed (λ (p : ℕ). slice_index names p) step) live.0
      gives_next = gives-renamed (λ (p : ℕ). slice_index names p) (take place state.links) k.links state.board player step live.0 same_part
          (r.given place live.0 step live.1.0 there live.1.1).gives

      named_now : (p : ℕ) → (p ≡ place) ⊎ (p ≡ place → ⊥) → IsMarked marks p → p < place + 1
          → slice_get (k.links ++ live.0 ∷ []) (slice_index (set names place (length steps)) p) ≡ slice_get state.links p
      named_now p (inl e) h lt =
          let name : slice_index (set names place (length steps)) p ≡ length k.links =
          ap (λ q. slice_index (set names place (length steps)) q) e
          ∙ (get_or-set_same names place (length steps) 0 in_names ∙ sym k.steps_of) in
          ap (λ q. slice_get (k.links ++ live.0 ∷ []) q) name
          ∙ (get-push_last k.links live.0 ∙ (sym live.1.0 ∙ ap (λ q. slice_get state.links q) (sym e)))
      named_now p (inr ne) h lt =
          let was : IsLiveAt state.board player state.links p = c.live p h in
          let b : p < bound = below p h (omega arith) in
          ap (λ q. slice_get (k.links ++ live.0 ∷ []) q) (get_or-set_other names place p (length steps) 0 ne)
          ∙ (get-push_before k.links live.0 (slice_index names p) was.0 (k.gives p h b ∙ was.1.0) ∙ sym was.1.0)

      pub kept-more : AreKeptBelow player state marks (place + 1) (steps ++ renamed (λ (p : ℕ). slice_index names p) step ∷ [])
          (set names place (length steps))
      kept-more = record {
        links = k.links ++ live.0 ∷ [];
        right = steps_more state.board player [] steps k.links _ live.0 k.right gives_next;
        steps_of = simp length-append (omega (arith, k.steps_of));
        inside = omega (arith, marked-inside marks place at.marked, c.long);
        few = simp length-append (omega (arith, k.few, at.from));
        named = length-set names place (length steps) ∙ k.named;
        gives = λ p h lt. named_now p (cases_eq p place) h lt;
        last = λ p h lt top.
            let e : p ≡ place = omega (arith, top place at.marked (omega arith)) in
            simp length-append (omega (
              arith,
              ap (λ q. slice_index (set names place (length steps)) q) e
                  ∙ get_or-set_same names place (length steps) 0 in_names,
            ));
      }

    -- all marked links are kept once no mark is left
    pub kept-all : ((place : ℕ) → bound ≤ place → IsMarked marks place → ⊥)
        → AreKeptBelow player state marks (length state.links) steps names
    kept-all none = record {
      links = k.links;
      right = k.right;
      steps_of = k.steps_of;
      inside = omega arith;
      few = omega (arith, k.few, k.inside);
      named = k.named;
      gives = λ p h lt. k.gives p h (inside p h);
      last = λ p h lt top. k.last p h (inside p h) (λ other g l. top other g (omega (arith, k.inside)));
    }
      where
        inside : (p : ℕ) → IsMarked marks p → p < bound
        inside p h = ⊎_elim (λ l. l) (λ le. absurd (none p le h)) (cases_lt p bound)

  module _ (named : List ℕ) (c : AreClosedFrom player state 0 marks) (u : AreMarkedUnder named marks) (steps : List Step) (names : List ℕ)
      (k : AreKeptBelow player state marks (length state.links) steps names) where
    held : (p : ℕ) → IsMarked marks p → p < length state.links
    held p h = omega (arith, marked-inside marks p h, c.long)

    -- of one named link alone all marked ones are at or before it
    top_one : length named ≡ 1 → (place : ℕ) → slice_get named 0 ≡ Some place → (other : ℕ) → IsMarked marks other → other ≤ place
    top_one one place first other h =
        let top = u.under other h in
        let k0 : top.1.0.0 ≡ 0 = omega (arith, slice_get_within named top.1.0.0 top.0 top.1.0.1) in
        let same : top.0 ≡ place = same_Some top.0 place (sym top.1.0.1 ∙ (ap (λ q. slice_get named q) k0 ∙ first)) in
        omega (arith, top.1.1, same)

    last_one : (ns : List ℕ) → ns ≡ named → length ns ≡ 1 → (new : ℕ) → slice_get (map (λ (p : ℕ). slice_index names p) ns) 0 ≡ Some new
        → suc new ≡ length steps
    last_one [] e one new h = cc
    last_one (n ∷ ns) e one new h =
        let first : slice_get named 0 ≡ Some n = ap (λ (xs : List ℕ). slice_get xs 0) (sym e) in
        let marked : IsMarked marks n = u.each n (0, first) in
        let is : new ≡ slice_index names n =
        same_Some new (slice_index names n) (sym h ∙ get-map (λ (p : ℕ). slice_index names p) (n ∷ ns) 0 n refl) in
        let alone : length named ≡ 1 = ap (λ (xs : List ℕ). length xs) (sym e) ∙ one in
        let last : suc (slice_index names n) ≡ length steps =
        k.last n marked (held n marked) (λ other g l. top_one alone n first other g) in
        omega (arith, is, last)

    pub derived : IsDerived state.board player state.links named steps (map (λ (p : ℕ). slice_index names p) named)
    derived = record {
      links = k.links;
      right = k.right;
      few = k.few;
      places_of = length-map named _;
      gives = λ i place new there there'.
          let marked : IsMarked marks place = u.each place (i, there) in
          let is : new ≡ slice_index names place =
          same_Some new (slice_index names place) (sym there' ∙ get-map (λ (p : ℕ). slice_index names p) named i place there) in
          ap (λ q. slice_get k.links q) is ∙ k.gives place marked (held place marked);
      last = λ one new h. last_one named refl one new h;
    }
