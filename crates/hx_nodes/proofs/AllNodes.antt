-- A node that answers each move of the opponent is right: its threats are links of the derivation, its lines are for
-- the cells that all threats share, and a better cell has a line with a child.
use Rattle.std.proofs.Common.{◌≡◌, ℕ, ◌<◌, ◌≤◌, true, List, [], length, get_or}
use Rattle.std.proofs.Common.{refl, sym, ap, ◌∙◌, subst, arith, inl, Option, Some, None, ◌↔◌}
use Rattle.std.specs.Prelude.{slice_get, IfSome, IsSomeAnd, Contains}
use Rattle.std.proofs.lemmas.Option.{slice_get-get_or, slice_get_within, get_or_from_slice_get}
use Rattle.std.proofs.lemmas.List.Elements.{All-contains}
use Rattle.hx_board.specs.Colours.{other_of}
use Rattle.hx_board.specs.Sets.{has}
use Rattle.hx_board.specs.Positions.{Board, IsEmpty}
use Rattle.hx_link.specs.declared.links.Link.{Link}
use Rattle.hx_link.specs.declared.steps.Step.{Step}
use Rattle.hx_link.specs.Steps.{IsChainLink}
use Rattle.hx_tree.specs.declared.nodes.Heading.{Heading}
use Rattle.hx_tree.specs.declared.nodes.Line.{Line}
use Rattle.hx_tree.specs.declared.nodes.Line.TheVariants.{Child, Under}
use Rattle.hx_tree.specs.declared.nodes.Rule.TheVariants.{All}
use Rattle.hx_tree.specs.Steps.{IsThreat, AreThreats, IsInEachThreat}
use Rattle.hx_tree.specs.Answers.{IsToAnswer, IsRightLine, cells_of}
use Rattle.hx_tree.specs.Plain.{IsChildLine, AreChildLines}
use Rattle.hx_tree.specs.Rules.{IsRightNode}
use Rattle.hx_tree.proofs.CellOrder.{same_kind}
use Rattle.hx_linkset.specs.declared.limits.TheConstants.{MOST_LINKS}
use Rattle.hx_linkset.specs.States.{Standing, IsRight}
use Rattle.hx_linkset.specs.Derivations.{IsDerived}
use Rattle.hx_linkset.proofs.NextLaws.{live-is_link}
use Rattle.hx_fill.specs.Musts.{IsMust, IsShared, HasCell}
use Rattle.hx_fill.specs.Unders.{IsUnderLine}
use Rattle.hx_nodes.specs.Lines.{wins_next, IsGathered, AreLines}
use Rattle.hx_nodes.proofs.MoveNodes.{node_of}
use Rattle.hx_nodes.proofs.LinkNodes.{sides-chain}

module _ (set : Standing) (right : IsRight set.player set.present) (threats : List ℕ) (cells : ℕ) (under : List Line)
    (must : IsMust set threats cells under)
    (steps : List Step) (places : List ℕ) (derived : IsDerived set.present.board set.player set.present.links threats steps places) where
  abbrev board : Board
  board = set.present.board

  -- the link of a threat, in the set and in the derivation
  record IsThreatAt (k new : ℕ) : Type 0 where
    place : ℕ
    named : slice_get threats k ≡ Some place
    link : Link
    held : slice_get set.present.links place ≡ Some link
    there : slice_get derived.links new ≡ Some link
    joins : IsChainLink link

  threat_at : (k new : ℕ) → slice_get places k ≡ Some new → IsThreatAt k new
  threat_at k new at =
      let less : k < length threats = omega (arith, derived.places_of, slice_get_within places k new at) in
      let named : slice_get threats k ≡ Some (get_or threats k 0) = slice_get-get_or threats k 0 less in
      let live = must.live k 0 less in
      record {
        place = get_or threats k 0;
        named = named;
        link = live.0;
        held = live.1.0;
        there = derived.gives k (get_or threats k 0) new named at ∙ live.1.0;
        joins = sides-chain board set.player live.0 (live-is_link set right (get_or threats k 0) live.0 live.1.0 live.1.1.0) live.1.1.1;
      }

  each_threat : (k : ℕ) (found : Option ℕ) → slice_get places k ≡ found → IfSome found (IsThreat derived.links)
  each_threat k None at = tt
  each_threat k (Some new) at = let threat = threat_at k new at in
      subst (λ (o : Option Link). IsSomeAnd o IsChainLink) (sym threat.there) threat.joins

  threats_right : AreThreats derived.links places
  threats_right = record { few = omega (arith, derived.places_of, must.few); each = λ k. each_threat k (slice_get places k) refl }

  -- a threat is one of the threats
  one_threat : (k place : ℕ) → slice_get threats k ≡ Some place → Contains threats place
  one_threat k place at = (k, slice_get_within threats k place at, get_or_from_slice_get threats k place place at)

  shared_in : (cell : ℕ) → IsShared set threats cell → (k : ℕ) (found : Option ℕ) → slice_get places k ≡ found
      → IfSome found (λ place. IsSomeAnd (slice_get derived.links place) (λ link. has link.carrier cell ≡ true))
  shared_in cell shared k None at = tt
  shared_in cell shared k (Some new) at = let threat = threat_at k new at in
      subst (λ (o : Option Link). IsSomeAnd o (λ link. has link.carrier cell ≡ true)) (sym threat.there)
      (shared.in_each threat.place (one_threat k threat.place threat.named) threat.link threat.held)

  in_shared : (cell : ℕ) → IsInEachThreat derived.links places cell → (place : ℕ) → Contains threats place → HasCell set cell place
  in_shared cell in_each place is link held =
      let k : ℕ = is.0 in
      let less : k < length places = omega (arith, derived.places_of, is.1) in
      let new : ℕ = get_or places k 0 in
      let at : slice_get places k ≡ Some new = slice_get-get_or places k 0 less in
      let named : slice_get threats k ≡ Some place = slice_get-get_or threats k place is.1 ∙ ap Some is.2 in
      let there : slice_get derived.links new ≡ Some link = derived.gives k place new named at ∙ held in
      let here : IsSomeAnd (slice_get derived.links new) (λ link. has link.carrier cell ≡ true) =
      subst (λ (o : Option ℕ).
      IfSome o (λ p. IsSomeAnd (slice_get derived.links p) (λ link. has link.carrier cell ≡ true))) at (in_each k) in
      subst (λ (o : Option Link). IsSomeAnd o (λ link. has link.carrier cell ≡ true)) there here

  to_answer : (cell : ℕ) → (has cells cell ≡ true) ↔ IsToAnswer board derived.links places cell
  to_answer cell = (
    (λ member. let shared = (must.same cell).0 member in
        record { empty = shared.empty; shared = λ k. shared_in cell shared k (slice_get places k) refl }),
    (λ is. (must.same cell).1 (record { empty = is.empty; in_each = in_shared cell is.shared })),
  )

  pub all_right : (headings : List Heading) (lines : List Line) (some : ℕ) → IsEmpty board some → length set.present.links ≤ MOST_LINKS
      → AreLines headings (wins_next board set.player) cells under lines
      → IsRightNode headings (node_of board (other_of set.player) set.player (All steps places lines))
  all_right headings lines some empty few are = record {
    board = right.is_board;
    rule = record {
      mover = refl;
      some = some;
      some_empty = empty;
      links = derived.links;
      steps_right = record { few = omega (arith, derived.few); right = derived.right };
      threats_right = threats_right;
      cells = same_kind (λ cell. has cells cell ≡ true) (IsToAnswer board derived.links places) (cells_of lines) to_answer are.in_order;
      lines_right = λ k. line_right (slice_get lines k) (are.each k);
    };
  }
    where
      line_right : (found : Option Line) → IfSome found (IsGathered headings (wins_next board set.player) under)
          → IfSome found (IsRightLine headings (wins_next board set.player) derived.links places lines)
      line_right None is = tt
      line_right (Some (Child cell child)) is = is
      line_right (Some (Under cell better kill)) is =
          let free = must.under_lines.betters better (record { worse = cell; kill = kill; line = is }) in (
            All-contains (IsUnderLine board (other_of set.player)) under (Under cell better kill) must.under_lines.right is,
            inl (are.by_child better free.0 free.1),
          )

-- where no line names a better cell each line leads to a child
gathered-child : (headings : List Heading) (heading : Heading) (found : Option Line) → IfSome found (IsGathered headings heading [])
    → IfSome found IsChildLine
gathered-child headings heading None is = tt
gathered-child headings heading (Some (Child cell child)) is = tt
gathered-child headings heading (Some (Under cell better kill)) is = absurd (omega (arith, is.1))

pub gathered-children : (headings : List Heading) (heading : Heading) (lines : List Line)
    → ((k : ℕ) → IfSome (slice_get lines k) (IsGathered headings heading [])) → AreChildLines lines
gathered-children headings heading lines each k = gathered-child headings heading (slice_get lines k) (each k)
