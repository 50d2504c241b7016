-- Taking the cell of a part that is due.
use Rattle.std.proofs.Common.{◌≡◌, ℕ, ◌<◌, Bool, true, List, [], Option, length, set, refl, sym, ◌∙◌, subst, Some, arith}
use Rattle.std.specs.Prelude.{slice_get}
use Rattle.std.specs.declared.option.Option.TheVariants.{None}
use Rattle.std.proofs.lemmas.Option.{slice_get_within}
use Rattle.hx_board.specs.declared.colours.Colour.{Colour}
use Rattle.hx_board.specs.Cells.{Extent}
use Rattle.hx_board.specs.Positions.{Board, IsEmpty, put}
use Rattle.hx_board.specs.Graph.{HasChain}
use Rattle.hx_board.specs.Sets.{has}
use Rattle.hx_link.specs.declared.links.Kind.TheVariants.{Full}
use Rattle.hx_link.specs.declared.links.Link.{Link}
use Rattle.hx_link.specs.declared.steps.Step.{Step}
use Rattle.hx_link.specs.declared.steps.Step.TheVariants.{Base, AndStone, AndCell, Or}
use Rattle.hx_link.specs.Steps.{AreRightSteps}
use Rattle.hx_link.proofs.LinkLaws.{steps-length}
use Rattle.hx_play.specs.Kept.{AreKept, IsKept, IsDueAt, IsOver, HasMoved, ArePartedFrom, IsOr}
use Rattle.hx_play.proofs.KeptLaws.{stones-same, take_in}
use Rattle.hx_play.proofs.MarkLaws.{with-one, with-two}
use Rattle.hx_play.proofs.StepLaws.{named-before}
use Rattle.hx_play.proofs.MoveLaws.{cell_given, cell_rule, first_there, second_there, over, cell_empty, cell_out}
use Rattle.hx_play.proofs.BetweenLaws.{over-one}

-- a link's place is one of a step
pub place-within : (board : Board) (player : Colour) (steps : List Step) (links : List Link) (place : ℕ) (link : Link)
    → AreRightSteps board player [] steps links
    → slice_get links place ≡ Some link → place < length steps
place-within board player steps links place link right there =
    omega (arith, slice_get_within links place link there, steps-length board player [] steps links right)

-- where no link is kept there is a chain
pub none-chain : (base : Board) (player : Colour) (links : List Link) (marks : List Bool) (stone : Option ℕ) (board : Board)
    → AreKept base player links marks None stone board
    → ((place : ℕ) (link : Link) → IsKept links marks place link → ⊥) → HasChain board player
none-chain base player links marks stone board kept none = kept.lead board (stones-same player board) (λ p l k. absurd (none p l k)) tt

module _ (base : Board) (player : Colour) (links : List Link) (steps : List Step) (marks : List Bool) (board : Board) (place left right : ℕ)
    (rights : AreRightSteps base player [] steps links)
    (at : slice_get steps place ≡ Some (AndCell left right)) (due : IsDueAt base player links marks board place) where
  abbrev more : List Bool
  more = set (set marks left true) right true

  abbrev cell_is : ℕ
  cell_is = (cell_rule base player links steps marks more board place left right rights at due).cell

  pub left-there : (link : Link) × (slice_get links left ≡ Some link)
  left-there = (_, first_there base player links steps marks more board place left right rights at due)

  pub right-there : (link : Link) × (slice_get links right ≡ Some link)
  right-there = (_, second_there base player links steps marks more board place left right rights at due)

  pub left-less : left < place
  left-less =
      let g = cell_given base player links steps marks more board place left right rights at due in
      named-before base player links place (AndCell left right) g left g.gives.rule.over.first g.gives.rule.over.first_there

  pub right-less : right < place
  right-less =
      let g = cell_given base player links steps marks more board place left right rights at due in
      named-before base player links place (AndCell left right) g right g.gives.rule.over.second g.gives.rule.over.second_there

  module _ (size : Extent) (whole first second : ℕ) (size_is : size ≡ board.size)
      (whole_is : (link : Link) → slice_get links place ≡ Some link → whole ≡ link.carrier)
      (first_is : (link : Link) → slice_get links left ≡ Some link → first ≡ link.carrier)
      (second_is : (link : Link) → slice_get links right ≡ Some link → second ≡ link.carrier) where
    is_over : IsOver size whole first second
        (cell_rule base player links steps marks (set (set marks left true) right true) board place left right rights at due).cell
    is_over =
        let here = over base player links steps marks more board place left right rights at due whole first second
        (whole_is due.link due.there)
        (first_is _ (first_there base player links steps marks more board place left right rights at due))
        (second_is _ (second_there base player links steps marks more board place left right rights at due)) in
        let P : Extent → Type 0 = λ e. IsOver e whole first second cell_is in
        subst P (sym (size_is ∙ due.kept.stones.same_size)) here

    pub some-over : (cell : ℕ) × IsOver size whole first second cell
    some-over = (cell_is, is_over)

    module _ (cell : ℕ) (is : IsOver size whole first second cell) where
      same_cell : (cell_rule base player links steps marks
          (set (set marks left true) right true) board place left right rights at due).cell ≡ cell
      same_cell = sym (over-one size whole first second cell cell_is is is_over)

      pub taken-empty : IsEmpty board cell
      taken-empty = subst (IsEmpty board) same_cell (cell_empty base player links steps marks more board place left right rights at due)

      pub taken-moved : (after : Board) → left < length marks → right < length marks → after ≡ put board player cell
          → HasMoved base player links (set (set marks left true) right true) board after cell
      taken-moved after less less_too moved =
          let P : ℕ → Type 0 = λ n. HasMoved base player links (set (set marks left true) right true) board (put board player n) n in
          let Q : Board → Type 0 = λ b. HasMoved base player links (set (set marks left true) right true) board b cell in
          subst Q (sym moved)
          (subst P same_cell (cell_out base player links steps marks more board place left right rights at due
          (with-two marks left right less less_too)))

-- a kept link is by an Or, once all are taken apart
pub kept-or : (base : Board) (player : Colour) (steps : List Step) (links : List Link) (marks : List Bool) (stone : Option ℕ)
    (board : Board) (place : ℕ) (link : Link) (step : Step)
    → ArePartedFrom base player steps links marks stone board 0 → IsKept links marks place link → slice_get steps place ≡ Some step
    → IsOr step
kept-or base player steps links marks stone board place link step parted kept at = parted.ors place step at kept.marked (omega arith)

pub or_step : (step : Step) → IsOr step → (parts : List ℕ) × (step ≡ Or parts)
or_step (Base a b) is = absurd is
or_step (AndStone a b) is = absurd is
or_step (AndCell a b) is = absurd is
or_step (Or parts) is = (parts, refl)

-- a full link that is due is kept
pub keep_due : (base : Board) (player : Colour) (links : List Link) (marks : List Bool) (stone : Option ℕ) (board : Board) (place : ℕ)
    (link : Link) → AreKept base player links marks (Some link) stone board
    → slice_get links place ≡ Some link → link.kind ≡ Full → place < length marks
    → AreKept base player links (set marks place true) None stone board
keep_due base player links marks stone board place link kept there full less =
    take_in base player links marks (set marks place true) link stone board (λ p. p ≡ place) kept (with-one marks place less)
    (λ p l same at. let here : link ≡ l = one p l same at in rw (← here) full)
    (λ p l same at n h. let here : link ≡ l = one p l same at in let P : Link → Type 0 = λ x. has x.carrier n ≡ true in subst P
    (sym here) h)
    (λ p q l m same same_too differ. absurd (differ (same ∙ sym same_too)))
    (λ later stones joined. joined place link refl there)
  where
    same_some : (a b : Link) → Some a ≡ Some b → a ≡ b
    same_some a b e = cc

    one : (p : ℕ) (l : Link) → p ≡ place → slice_get links p ≡ Some l → link ≡ l
    one p l same at =
        let Q : ℕ → Type 0 = λ n. slice_get links n ≡ Some l in
        same_some link l (sym there ∙ subst Q same at)
