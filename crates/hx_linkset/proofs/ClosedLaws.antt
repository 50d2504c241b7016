-- The pass down: where what the last marked step names is marked too, the marks are closed from its place on, since a
-- step names links that stand before it.
use Rattle.std.proofs.Common.{◌≡◌, ℕ, zero, suc, ◌<◌, ◌≤◌, List, [], ◌∷◌, length, take, sym, ap, ◌∙◌, subst, inl, inr, Some, ◌⊎◌, ⊎_elim}
use Rattle.std.proofs.Common.{refl, get_or, arith}
use Rattle.std.specs.Prelude.{slice_get}
use Rattle.std.proofs.lemmas.Bool.{cases_eq, cases_lt}
use Rattle.std.proofs.lemmas.Option.{same_Some, slice_get_read}
use Rattle.hx_board.specs.declared.colours.Colour.{Colour}
use Rattle.hx_board.specs.Lists.{StandsIn}
use Rattle.hx_link.specs.declared.steps.Step.{Step}
use Rattle.hx_linkset.specs.States.{State, Names, IsLiveAt, IsRight, GivesFromLive}
use Rattle.hx_linkset.specs.Marks.{IsMarked, AreUnmarked, MarksMore, IsLastMarkBelow}
use Rattle.hx_linkset.specs.Derivations.{AreClosedFrom, AreMarkedUnder}
use Rattle.hx_linkset.proofs.MarkLaws.{marked-inside}

get-take : {A : Type 0} → (n : ℕ) (xs : List A) (place : ℕ) (x : A) → slice_get (take n xs) place ≡ Some x → (place < n)
    × (slice_get xs place ≡ Some x)
get-take zero xs place x e = cc
get-take (suc n) [] place x e = cc
get-take (suc n) (y ∷ ys) zero x e = (omega arith, e)
get-take (suc n) (y ∷ ys) (suc place) x e = let w = get-take n ys place x e in (omega (arith, w.0), w.1)

module _ (player : Colour) (state : State) (r : IsRight player state) where
  -- what the step of a live link names stands before it and is live
  pub part-before : (place : ℕ) (step : Step) → IsLiveAt state.board player state.links place → slice_get state.steps place ≡ Some step
      → (part : ℕ) → Names step part
      → (part < place) × IsLiveAt state.board player state.links part
  part-before place step live there part named =
      let g : GivesFromLive state.board player (take place state.links) step live.0 = r.given place live.0 step live.1.0 there live.1.1 in
      let w = g.from_live part named in
      let at = get-take place state.links part w.0 w.1.0 in
      (at.0, (w.0, (at.1, w.1.1)))

  -- the step of a marked link, as it is read
  pub marked-step : (marks : List ℕ) → length marks ≡ length state.links → (place : ℕ) → IsMarked marks place → (step : Step)
      → step ≡ get_or state.steps place step → slice_get state.steps place ≡ Some step
  marked-step marks long place marked step read =
      let inside : place < length state.steps = omega (arith, marked-inside marks place marked, long, r.steps_of) in
      slice_get_read state.steps (length state.steps) place step refl inside read

  module _ (named old marks : List ℕ) (none : AreUnmarked (length state.links) old) (m : MarksMore (StandsIn named) old marks)
      (live : (place : ℕ) → StandsIn named place → IsLiveAt state.board player state.links place) where
    pub closed-begun : AreClosedFrom player state (length state.links) marks
    closed-begun = record {
      long = m.long ∙ none.long;
      live = λ p h. ⊎_elim (λ k. absurd (none.none p k)) (λ k. live p k) (m.only p h);
      closed = λ p step le h there part k. absurd (omega (arith, marked-inside marks p h, m.long, none.long));
    }

    pub under-begun : AreMarkedUnder named marks
    under-begun = record {
      each = m.each;
      under = λ p h. ⊎_elim (λ k. absurd (none.none p k)) (λ k. (p, (k, omega arith))) (m.only p h);
    }

  module _ (bound place : ℕ) (marks new : List ℕ) (c : AreClosedFrom player state bound marks) (at : IsLastMarkBelow marks bound place)
      (step : Step) (there : slice_get state.steps place ≡ Some step)
      (m : MarksMore (Names step) marks new) where
    before : (part : ℕ) → Names step part → (part < place) × IsLiveAt state.board player state.links part
    before part k = part-before place step (c.live place at.marked) there part k

    closed_at : (p : ℕ) (s : Step) → (p ≡ place) ⊎ (p ≡ place → ⊥) → place ≤ p → IsMarked new p → slice_get state.steps p ≡ Some s
        → (part : ℕ) → Names s part → IsMarked new part
    closed_at p s (inl e) le h here part k =
        let same : s ≡ step = same_Some s step (sym here ∙ (ap (λ q. slice_get state.steps q) e ∙ there)) in
        let P : Step → Type 0 = λ t. Names t part in
        m.each part (subst P same k)
    closed_at p s (inr ne) le h here part k = ⊎_elim
        (λ was. ⊎_elim (λ lt. absurd (at.last p (omega arith) lt was)) (λ above. m.stay part (c.closed p s above was here part k))
        (cases_lt p bound))
        (λ one. absurd (omega (arith, (before p one).0)))
        (m.only p h)

    pub closed-more : AreClosedFrom player state place new
    closed-more = record {
      long = m.long ∙ c.long;
      live = λ p h. ⊎_elim (λ was. c.live p was) (λ k. (before p k).1) (m.only p h);
      closed = λ p s le h here part k. closed_at p s (cases_eq p place) le h here part k;
    }

    pub under-more : (named : List ℕ) → AreMarkedUnder named marks → AreMarkedUnder named new
    under-more named u = record {
      each = λ p k. m.stay p (u.each p k);
      under = λ p h. ⊎_elim (λ was. u.under p was)
          (λ k. let top = u.under place at.marked in (top.0, (top.1.0, omega (arith, (before p k).0, top.1.1))))
          (m.only p h);
    }

  pub closed-all : (bound : ℕ) (marks : List ℕ) → AreClosedFrom player state bound marks
      → ((place : ℕ) → place < bound → IsMarked marks place → ⊥) → AreClosedFrom player state 0 marks
  closed-all bound marks c none = record {
    long = c.long;
    live = c.live;
    closed = λ p s le h here part k. ⊎_elim (λ lt. absurd (none p lt h)) (λ above. c.closed p s above h here part k) (cases_lt p bound);
  }
