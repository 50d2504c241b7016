-- The links of steps that are read one after the other. A step gives one link at most, so steps give one list of links
-- at most; with one more step they give one link more, and where a step gives none, no list of links is theirs.
use Rattle.std.proofs.Common.{◌≡◌, ℕ, ◌+◌, ◌<◌, List, [], ◌∷◌, ◌++◌, take, drop, length, get_or, refl, sym, ap, ◌∙◌, subst, append_assoc}
use Rattle.std.proofs.lemmas.List.{take-append-drop}
use Rattle.hx_board.proofs.ListLaws.{take-read}
use Rattle.hx_board.specs.declared.colours.Colour.{Colour}
use Rattle.hx_board.specs.Positions.{Board}
use Rattle.hx_link.specs.declared.links.Link.{Link}
use Rattle.hx_link.specs.declared.steps.Step.{Step}
use Rattle.hx_link.specs.Steps.{StepGives, AreRightSteps}
use Rattle.hx_link.proofs.OneLink.{step-unique}
use Rattle.hx_tree.specs.Steps.{GiveLinks}

module _ (board : Board) (player : Colour) where
  -- the steps before a place give these links, and then the step there gives one more
  steps_more : (before : List Link) (steps : List Step) (links : List Link) (step : Step) (link : Link)
      → AreRightSteps board player before steps links
      → StepGives board player links step link → AreRightSteps board player before (steps ++ step ∷ []) (links ++ link ∷ [])
  steps_more before [] links step link right gives =
      let P : List Link → Type 0 = λ ls. StepGives board player ls step link in
      (link, subst P right gives, ap (λ (ls : List Link). ls ++ link ∷ []) right)
  steps_more before (first ∷ steps) links step link right gives =
      (right.0, right.1, steps_more (before ++ right.0 ∷ []) steps links step link right.2 gives)

  one_list : (before : List Link) (steps : List Step) (a b : List Link) → AreRightSteps board player before steps a
      → AreRightSteps board player before steps b → a ≡ b
  one_list before [] a b right other = right ∙ sym other
  one_list before (step ∷ steps) a b right other =
      let same : other.0 ≡ right.0 = step-unique board player before other.0 right.0 step other.1 right.1 in
      let P : Link → Type 0 = λ l. AreRightSteps board player (before ++ l ∷ []) steps b in
      one_list (before ++ right.0 ∷ []) steps a b right.2 (subst P same other.2)

  -- of steps that give links the first ones give some, after which the next one gives a link
  record GoesOn (before : List Link) (front : List Step) (step : Step) : Type 0 where
    links : List Link
    right : AreRightSteps board player before front links
    link : Link
    gives : StepGives board player links step link

  next_gives : (before : List Link) (front : List Step) (step : Step) (later : List Step) (all : List Link)
      → AreRightSteps board player before (front ++ step ∷ later) all → GoesOn before front step
  next_gives before [] step later all right = record { links = before; right = refl; link = right.0; gives = right.1 }
  next_gives before (first ∷ front) step later all right =
      let on : GoesOn (before ++ right.0 ∷ []) front step = next_gives (before ++ right.0 ∷ []) front step later all right.2 in
      record { links = on.links; right = (right.0, right.1, on.right); link = on.link; gives = on.gives }

  pub same_links : (steps : List Step) (a b : List Link) → GiveLinks board player steps a → GiveLinks board player steps b → a ≡ b
  same_links steps a b right other = one_list [] steps a b right.right other.right

  module _ (steps : List Step) (place : ℕ) (step : Step) (links : List Link) (less : place < length steps)
      (is : step ≡ get_or steps place step)
      (right : AreRightSteps board player [] (take place steps) links) where
    up_to : take (place + 1) steps ≡ take place steps ++ step ∷ []
    up_to = take-read steps place step less is

    pub one_link_more : (link : Link) → StepGives board player links step link
        → AreRightSteps board player [] (take (place + 1) steps) (links ++ link ∷ [])
    one_link_more link gives = rw up_to (steps_more [] (take place steps) links step link right gives)

    whole : steps ≡ take place steps ++ step ∷ drop (place + 1) steps
    whole = sym (take-append-drop (place + 1) steps) ∙ ap (λ (front : List Step). front ++ drop (place + 1) steps) up_to
        ∙ append_assoc (take place steps) (step ∷ []) (drop (place + 1) steps)

    pub no_links : ((link : Link) → StepGives board player links step link → ⊥) → (all : List Link) → GiveLinks board player steps all → ⊥
    no_links none all given =
        let P : List Step → Type 0 = λ ss. AreRightSteps board player [] ss all in
        let on : GoesOn [] (take place steps) step =
        next_gives [] (take place steps) step (drop (place + 1) steps) all (subst P whole given.right) in
        let same : on.links ≡ links = one_list [] (take place steps) on.links links on.right right in
        let Q : List Link → Type 0 = λ ls. StepGives board player ls step on.link in
        none on.link (subst Q same on.gives)
