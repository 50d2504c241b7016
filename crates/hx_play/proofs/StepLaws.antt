-- What the step at a place gives. The links of right steps begin with those from before the place, and the step there
-- gives the next one after them; so a link that it names stands at an earlier place of all the links.
use Rattle.std.proofs.Common.{◌≡◌, ℕ, zero, suc, ◌+◌, ◌<◌, List, [], ◌∷◌, ◌++◌, length, refl, sym, ap, ◌∙◌, subst, Some, arith}
use Rattle.std.proofs.Common.{append_assoc, length-append}
use Rattle.std.specs.Prelude.{slice_get}
use Rattle.std.proofs.lemmas.Option.{slice_get_within}
use Rattle.hx_board.specs.declared.colours.Colour.{Colour}
use Rattle.hx_board.specs.Positions.{Board}
use Rattle.hx_board.proofs.ListLaws.{get-append}
use Rattle.hx_link.specs.declared.links.Link.{Link}
use Rattle.hx_link.specs.declared.steps.Step.{Step}
use Rattle.hx_link.specs.Steps.{StepGives, AreRightSteps}

get-seam : (xs : List Link) (x : Link) (more : List Link) → slice_get (xs ++ x ∷ more) (length xs) ≡ Some x
get-seam [] x more = refl
get-seam (y ∷ ys) x more = get-seam ys x more

module _ (board : Board) (player : Colour) where
  front : (before : List Link) (steps : List Step) (links : List Link) → AreRightSteps board player before steps links → (rest : List Link)
      × (links ≡ before ++ rest)
  front before [] links right = ([], right ∙ sym (append-nil before))
    where
      append-nil : (xs : List Link) → xs ++ [] ≡ xs
      append-nil [] = refl
      append-nil (x ∷ xs) = ap (λ (ys : List Link). x ∷ ys) (append-nil xs)
  front before (step ∷ steps) links right =
      let w : (rest : List Link) × (links ≡ (before ++ right.0 ∷ []) ++ rest) = front (before ++ right.0 ∷ []) steps links right.2 in
      (right.0 ∷ w.0, w.1 ∙ append_assoc before (right.0 ∷ []) w.0)

  -- the step at a place gives a link after those from before the place
  pub record IsGiven (links : List Link) (place : ℕ) (step : Step) : Type 0 where
    pub earlier : List Link
    pub link : Link
    pub later : List Link
    pub parts : links ≡ earlier ++ link ∷ later
    pub count : length earlier ≡ place
    pub gives : StepGives board player earlier step link

  given_from : (before : List Link) (steps : List Step) (links : List Link) (place : ℕ) (step : Step)
      → AreRightSteps board player before steps links
      → slice_get steps place ≡ Some step → IsGiven links (length before + place) step
  given_from before [] links place step right at = absurd (cc)
  given_from before (first ∷ steps) links zero step right at =
      let same : first ≡ step = cc in
      let w : (rest : List Link) × (links ≡ (before ++ right.0 ∷ []) ++ rest) = front (before ++ right.0 ∷ []) steps links right.2 in
      let P : Step → Type 0 = λ s. StepGives board player before s right.0 in
      record {
        earlier = before;
        link = right.0;
        later = w.0;
        parts = w.1 ∙ append_assoc before (right.0 ∷ []) w.0;
        count = omega arith;
        gives = subst P same right.1;
      }
  given_from before (first ∷ steps) links (suc place) step right at =
      let on : IsGiven links (length (before ++ right.0 ∷ []) + place) step =
      given_from (before ++ right.0 ∷ []) steps links place step right.2 at in
      record {
        earlier = on.earlier;
        link = on.link;
        later = on.later;
        parts = on.parts;
        count = omega (arith, on.count, length-append before (right.0 ∷ []));
        gives = on.gives;
      }

  pub given_at : (steps : List Step) (links : List Link) (place : ℕ) (step : Step) → AreRightSteps board player [] steps links
      → slice_get steps place ≡ Some step → IsGiven links place step
  given_at steps links place step right at =
      let on : IsGiven links (0 + place) step = given_from [] steps links place step right at in
      record { earlier = on.earlier; link = on.link; later = on.later; parts = on.parts; count = omega (arith, on.count); gives = on.gives }

  -- the link of the step is at its place, and what it names is before it
  module _ (links : List Link) (place : ℕ) (step : Step) (given : IsGiven links place step) where
    pub given-there : slice_get links place ≡ Some given.link
    given-there =
        let P : List Link → Type 0 = λ ls. slice_get ls place ≡ Some given.link in
        let Q : ℕ → Type 0 = λ n. slice_get (given.earlier ++ given.link ∷ given.later) n ≡ Some given.link in
        subst P (sym given.parts) (subst Q given.count (get-seam given.earlier given.link given.later))

    pub named-there : (name : ℕ) (link : Link) → slice_get given.earlier name ≡ Some link → slice_get links name ≡ Some link
    named-there name link there =
        let P : List Link → Type 0 = λ ls. slice_get ls name ≡ Some link in
        subst P (sym given.parts) (get-append given.earlier (given.link ∷ given.later) name link there)

    pub named-before : (name : ℕ) (link : Link) → slice_get given.earlier name ≡ Some link → name < place
    named-before name link there = omega (arith, slice_get_within given.earlier name link there, given.count)
