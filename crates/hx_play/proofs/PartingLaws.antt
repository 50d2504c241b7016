-- Taking kept links apart, from the last place down: what is kept stays so, and from the place on it is by Ors.
use Rattle.std.proofs.Common.{◌≡◌, ℕ, ◌+◌, ◌<◌, ◌≤◌, Bool, true, false, List, [], length, set, get_or, refl, sym, ◌∙◌, subst, Some, None}
use Rattle.std.proofs.Common.{Option, ◌⊎◌, inl, inr, ⊎_elim, arith, length-set}
use Rattle.std.specs.Prelude.{slice_get}
use Rattle.std.proofs.lemmas.Bool.{false≢true}
use Rattle.std.proofs.lemmas.Option.{slice_get_within}
use Rattle.std.proofs.Math.Decide.{ℕ_discrete}
use Rattle.hx_board.specs.declared.colours.Colour.{Colour}
use Rattle.hx_board.specs.declared.vertices.Vertex.{Vertex}
use Rattle.hx_board.specs.Positions.{Board}
use Rattle.hx_link.specs.declared.links.Link.{Link}
use Rattle.hx_link.specs.declared.steps.Step.{Step}
use Rattle.hx_link.specs.declared.steps.Step.TheVariants.{Base, AndStone, AndCell, Or}
use Rattle.hx_link.specs.Steps.{AreRightSteps, GivesAndCell}
use Rattle.hx_play.specs.Kept.{AreKept, IsMarked, IsOr, AreOrsFrom, ArePartedFrom}
use Rattle.hx_play.proofs.KeptLaws.{IsWithout, IsWith}
use Rattle.hx_play.proofs.MarkLaws.{without-set, with-two}
use Rattle.hx_play.proofs.StepLaws.{IsGiven, given_at, given-there, named-before}
use Rattle.hx_play.proofs.MoveLaws.{base_out, and_stone_out}

same_some : {A : Type 0} {x y : A} → Some x ≡ Some y → x ≡ y
same_some e = cc

module _ (base : Board) (player : Colour) (steps : List Step) (links : List Link) (marks : List Bool) (place : ℕ)
    (right : AreRightSteps base player [] steps links) where
  abbrev Parted : List Bool → Option ℕ → Board → ℕ → Type 0
  Parted some stone board from = ArePartedFrom base player steps links some stone board from

  -- the place of a part is within the room
  inside_room : (part : ℕ) (step : Step) → slice_get steps place ≡ Some step → length steps ≤ length marks → part < place
      → part < length marks
  inside_room part step at room less = omega (arith, slice_get_within steps place step at)

  pub left-inside : (left other : ℕ) → slice_get steps place ≡ Some (AndStone left other) → length steps ≤ length marks
      → left < length marks
  left-inside left other at room =
      let g = given_at base player steps links place (AndStone left other) right at in
      inside_room left (AndStone left other) at room
      (named-before base player links place (AndStone left other) g left g.gives.rule.over.first g.gives.rule.over.first_there)

  pub right-inside : (other right_place : ℕ) → slice_get steps place ≡ Some (AndStone other right_place) → length steps ≤ length marks
      → right_place < length marks
  right-inside other right_place at room =
      let g = given_at base player steps links place (AndStone other right_place) right at in
      inside_room right_place (AndStone other right_place) at room
      (named-before base player links place (AndStone other right_place) g right_place g.gives.rule.over.second
      g.gives.rule.over.second_there)

  module _ (stone : Option ℕ) (board : Board) where
    -- where the place itself is not marked, or by an Or, nothing has to be done
    ors_here : (some : List Bool) → ((p : ℕ) → place + 1 ≤ p → IsMarked some p → IsMarked marks p)
        → (IsMarked some place → (step : Step) → slice_get steps place ≡ Some step → IsOr step)
        → AreOrsFrom steps marks (place + 1) → AreOrsFrom steps some place
    ors_here some was here ors p step at marked from = by (ℕ_discrete p place)
      where
        by : Dec (p ≡ place) → IsOr step
        by (yes same) =
            let M : ℕ → Type 0 = λ n. IsMarked some n in
            let Q : ℕ → Type 0 = λ n. slice_get steps n ≡ Some step in
            here (subst M same marked) step (subst Q same at)
        by (no differ) = let later : place + 1 ≤ p = omega arith in ors p step at (was p later marked) later

    pub parted-unmarked : get_or marks place false ≡ false → Parted marks stone board (place + 1) → Parted marks stone board place
    parted-unmarked unmarked parted = record {
      kept = parted.kept;
      ors = ors_here marks (λ p _ m. m) (λ m. absurd (false≢true (sym unmarked ∙ m))) parted.ors;
    }

    pub parted-or : (parts : List ℕ) → slice_get steps place ≡ Some (Or parts) → Parted marks stone board (place + 1)
        → Parted marks stone board place
    parted-or parts at parted = record {
      kept = parted.kept;
      ors = ors_here marks (λ p _ m. m) (λ _ step there. let same : Or parts ≡ step = same_some (sym at ∙ there) in subst IsOr same tt)
          parted.ors;
    }

    pub parted-cell : (left other : ℕ) → slice_get steps place ≡ Some (AndCell left other) → IsMarked marks place
        → Parted marks stone board (place + 1) → Parted marks stone board place
    parted-cell left other at marked parted =
        let g : IsGiven base player links place (AndCell left other) =
        given_at base player steps links place (AndCell left other) right at in
        let rule : GivesAndCell base g.earlier left other g.link = g.gives.rule in
        absurd (cc (
          rule.kind,
          parted.kept.full place g.link
              (record { there = given-there base player links place (AndCell left other) g; marked = marked }),
        ))

    module _ (less : place < length marks) (marked : IsMarked marks place) where
      without : IsWithout marks place (set marks place false)
      without = without-set marks place less

      pub parted-base : (a b : Vertex) → slice_get steps place ≡ Some (Base a b) → Parted marks stone board (place + 1)
          → Parted (set marks place false) stone board place
      parted-base a b at parted = record {
        kept = base_out base player links steps marks (set marks place false) stone board place a b right at parted.kept marked without;
        ors = ors_here (set marks place false) (λ p _ m. (without.from p m).0) (λ m. absurd ((without.from place m).1 refl)) parted.ors;
      }

      module _ (left other : ℕ) (at : slice_get steps place ≡ Some (AndStone left other)) (room : length steps ≤ length marks) where
        abbrev Two : ℕ → Type 0
        Two p = (p ≡ left) ⊎ (p ≡ other)

        two : IsWith (set marks place false) (λ p. (p ≡ left) ⊎ (p ≡ other)) (set (set (set marks place false) left true) other true)
        two =
            with-two (set marks place false) left other
            (omega (arith, left-inside left other at room, length-set marks place false))
            (omega (arith, right-inside left other at room, length-set marks place false))

        stone_given : IsGiven base player links place (AndStone left other)
        stone_given = given_at base player steps links place (AndStone left other) right at

        before : (p : ℕ) → place ≤ p → (p ≡ left) ⊎ (p ≡ other) → ⊥
        before p from (inl e) =
            let less_too : left < place = named-before base player links place
            (AndStone left other) stone_given left stone_given.gives.rule.over.first stone_given.gives.rule.over.first_there in
            absurd (omega arith)
        before p from (inr e) =
            let less_too : other < place = named-before base player links place
            (AndStone left other) stone_given other stone_given.gives.rule.over.second stone_given.gives.rule.over.second_there in
            absurd (omega arith)

        pub parted-stone : Parted marks stone board (place + 1)
            → Parted (set (set (set marks place false) left true) other true) stone board place
        parted-stone parted = record {
          kept = and_stone_out base player links steps marks (set marks place false)
              (set (set (set marks place false) left true) other true) stone board place left other right at
              parted.kept marked without two;
          ors = ors_here (set (set (set marks place false) left true) other true)
              (λ p from m. ⊎_elim (λ k. (without.from p k).0) (λ new. let le : place ≤ p = omega arith in absurd (before p le new))
              (two.from p m))
              (λ m. ⊎_elim (λ k. absurd ((without.from place k).1 refl))
              (λ new. let le : place ≤ place = omega arith in absurd (before place le new)) (two.from place m))
              parted.ors;
        }

-- before any place is looked at
pub parted-start : (base : Board) (player : Colour) (steps : List Step) (links : List Link) (marks : List Bool) (stone : Option ℕ)
    (board : Board)
    → AreKept base player links marks None stone board → ArePartedFrom base player steps links marks stone board (length steps)
parted-start base player steps links marks stone board kept = record {
  kept = kept;
  ors = λ place step at marked from. let less : place < length steps = slice_get_within steps place step at in absurd (omega arith);
}
