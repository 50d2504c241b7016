-- A node with answers: the child of the cell's line is where the player stands next, and without such a line some
-- threat leaves the cell out, by whose link it starts.
use Rattle.std.proofs.Common.{◌≡◌, ℕ, zero, suc, ◌<◌, ◌≤◌, List, [], ◌∷◌, length, take, get_or, refl, sym, ap, ◌∙◌, subst, Option, Some}
use Rattle.std.proofs.Common.{⊎_elim, arith}
use Rattle.std.specs.Prelude.{slice_get, IsSomeAnd, Contains}
use Rattle.std.proofs.lemmas.Bool.{false≢true}
use Rattle.hx_board.specs.declared.colours.Colour.{Colour}
use Rattle.hx_board.specs.Colours.{other_of}
use Rattle.hx_board.specs.Positions.{Board, IsEmpty, put}
use Rattle.hx_board.proofs.ListLaws.{of_contained}
use Rattle.hx_board.proofs.StoneLaws.{empty-put}
use Rattle.hx_link.specs.declared.links.Link.{Link}
use Rattle.hx_link.specs.Steps.{AreRightSteps, IsChainLink}
use Rattle.hx_tree.specs.declared.nodes.Line.{Line}
use Rattle.hx_tree.specs.declared.nodes.Line.TheVariants.{Child, Under}
use Rattle.hx_tree.specs.declared.nodes.Node.{Node}
use Rattle.hx_tree.specs.declared.nodes.Rule.{Rule}
use Rattle.hx_tree.specs.declared.steps.TheConstants.{MOST_STEPS}
use Rattle.hx_tree.specs.Answers.{cells_of, HasChild, IsRightLine, IsRightAll}
use Rattle.hx_tree.specs.Headings.{IsHeading}
use Rattle.hx_tree.proofs.HeadingLaws.{leads-heading}
use Rattle.hx_tree.specs.Rules.{steps_of}
use Rattle.hx_tree.specs.Steps.{IsThreat, IsInEachThreat, IsOutsideThreat}
use Rattle.hx_tree.specs.Trees.{headings_of}
use Rattle.hx_tree.proofs.StepGrowth.{same_links}
use Rattle.hx_tree.proofs.ThreatLaws.{shared_or_outside}
use Rattle.hx_play.specs.declared.stands.Stage.TheVariants.{AtNode}
use Rattle.hx_play.specs.declared.stands.Stand.{Stand}
use Rattle.hx_play.specs.Chosen.{IsThreatWithout}
use Rattle.hx_tree.specs.Plain.{AreChildLines}
use Rattle.hx_play.specs.Kept.{IsMarked, HasStonesOf}
use Rattle.hx_play.specs.Standings.{IsAtNode, FitsStage, IsAnswering, StandsAt, StartsBy}
use Rattle.hx_play.proofs.KeptLaws.{stones-more}
use Rattle.hx_play.proofs.StandLaws.{earlier_node, all_right, all_plain}

-- a line for a cell, of lines with children alone, has a child for it
child_among : (lines : List Line) (k cell : ℕ) → AreChildLines lines → k < length (cells_of lines) → get_or (cells_of lines) k cell ≡ cell
    → HasChild lines cell
child_among [] k cell plain less is = absurd (omega arith)
child_among (Child c child ∷ lines) zero cell plain less is = let same : c ≡ cell = is in (child, (0, omega arith, rw same refl))
child_among (Under c better kill ∷ lines) zero cell plain less is = absurd (plain 0)
child_among (line ∷ lines) (suc k) cell plain less is =
    let w : HasChild lines cell = child_among lines k cell (λ j. plain (suc j)) (omega arith) is in
    (w.0, (suc w.1.0, omega (arith, w.1.1), w.1.2))

module _ (nodes : List Node) (node : Node) (stand : Stand) (threats : List ℕ) (lines : List Line)
    (a : IsAnswering nodes node threats lines stand) where
  abbrev right : IsRightAll (headings_of (take stand.node nodes)) node.heading a.steps threats lines
  right = all_right nodes stand node a.is_in a.steps threats lines a.by_answers

  pub child_stands : (after : Stand) (cell child : ℕ) → Contains lines (Child cell child) → after.winner ≡ stand.winner
      → after.to_move ≡ stand.winner → after.node ≡ child
      → after.stage ≡ AtNode → after.links ≡ stand.links → after.marks ≡ stand.marks → after.position ≡ put stand.position
      (other_of stand.winner) cell → StandsAt nodes after
  child_stands after cell child contained winner_is mover_is node_is stage_is links_is marks_is moved =
      let leads = of_contained (IsRightLine (headings_of (take stand.node nodes)) node.heading right.links threats lines) lines
      (Child cell child) right.lines_right contained in
      let next : Board = put node.heading.position (other_of node.heading.winner) cell in
      let w = earlier_node (IsHeading next node.heading.winner node.heading.winner) nodes stand.node child
      (leads-heading next node.heading.winner node.heading.winner (headings_of (take stand.node nodes)) child leads) in
      let N : ℕ → Type 0 = λ n. slice_get nodes n ≡ Some w.0 in
      let place : IsAtNode w.0 after = record {
        same_position = w.1.1.same_position ∙ (ap (λ (b : Board). put b (other_of node.heading.winner) cell) a.is_at.same_position
            ∙ (ap (λ (p : Colour). put stand.position (other_of p) cell) a.is_in.same_winner ∙ sym moved));
        same_mover = w.1.1.same_mover ∙ (a.is_in.same_winner ∙ sym mover_is);
      } in
      record {
        node = w.0;
        is_in = record {
          tree = a.is_in.tree;
          plain = a.is_in.plain;
          has_room = record { room = rw links_is a.is_in.has_room.room; marks = rw marks_is a.is_in.has_room.marks };
          there = subst N (sym node_is) w.1.0;
          same_winner = w.1.1.same_winner ∙ (a.is_in.same_winner ∙ sym winner_is);
        };
        fits = subst (FitsStage w.0 after) (sym stage_is) place;
      }

  module _ (links : List Link) (given : AreRightSteps node.heading.position node.heading.winner [] (steps_of node.rule) links) where
    abbrev S : Rule → Type 0
    S r = AreRightSteps node.heading.position node.heading.winner [] (steps_of r) links

    one : right.links ≡ links
    one = same_links node.heading.position node.heading.winner a.steps right.links links right.steps_right
        (record { few = right.steps_right.few; right = subst S a.by_answers given })

    pub some_whole : (cell : ℕ) → IsEmpty stand.position cell → (HasChild lines cell → ⊥)
        → ((p : ℕ) → IsThreatWithout links threats cell p → ⊥) → ⊥
    some_whole cell empty no_child no_whole =
        ⊎_elim shared outside (shared_or_outside right.links threats cell right.threats_right.each)
      where
        shared : IsInEachThreat right.links threats cell → ⊥
        shared in_each =
            let E : Board → Type 0 = λ b. IsEmpty b cell in
            let found = right.cells.each cell (record { empty = subst E (sym a.is_at.same_position) empty; shared = in_each }) in
            no_child (child_among lines found.0 cell
            (all_plain nodes stand node a.is_in a.steps threats lines a.by_answers) found.1 found.2)

        outside : IsOutsideThreat right.links threats cell → ⊥
        outside out =
            let L : List Link → Type 0 = λ ls. slice_get ls out.place ≡ Some out.link in
            no_whole out.place (record { is_threat = out.is_threat; link = out.link; there = subst L one out.there; outside = out.outside })

    pub starts_by_threat : (after : Stand) (cell place : ℕ) → IsThreatWithout links threats cell place → after.position ≡ put stand.position
        (other_of stand.winner) cell
        → after.links.items ≡ links → ((p : ℕ) → IsMarked after.marks.items p → ⊥) → StartsBy node after place
    starts_by_threat after cell place whole moved links_is none =
        let L : List Link → Type 0 = λ ls. IsSomeAnd (slice_get ls place) IsChainLink in
        let J : Option Link → Type 0 = λ o. IsSomeAnd o IsChainLink in
        let threat : IsSomeAnd (slice_get right.links place) IsChainLink =
        of_contained (IsThreat right.links) threats place right.threats_right.each whole.is_threat in
        let F : Rule → Type 0 = λ r. length (steps_of r) ≤ MOST_STEPS in
        let B : Board → Type 0 = λ b. HasStonesOf node.heading.winner b (put b (other_of stand.winner) cell) in
        let H : Board → Board → Type 0 = λ b c. HasStonesOf node.heading.winner b c in
        record {
          right = rw links_is given;
          few = subst F (sym a.by_answers) right.steps_right.few;
          none = none;
          link = whole.link;
          link_there = rw links_is whole.there;
          joins = subst J whole.there (subst L one threat);
          left = λ n h empty _. rw moved ((empty-put stand.position (other_of stand.winner) cell n).1 (
            (let E : Board → Type 0 = λ b. IsEmpty b n in subst E a.is_at.same_position empty),
            λ same. false≢true (sym whole.outside ∙ rw same at h),
          ));
          stones = rw (moved, ← a.is_at.same_position) (stones-more node.heading.winner node.heading.position (other_of stand.winner) cell);
        }
