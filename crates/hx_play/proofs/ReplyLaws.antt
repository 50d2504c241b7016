-- A move in kept links, or by a node, leads to where the player stands again.
use Rattle.std.proofs.Common.{◌≡◌, ℕ, true, List, length, sym, ap, ◌∙◌, subst, Option, Some, None}
use Rattle.std.specs.Prelude.{slice_get, MatchOption}
use Rattle.hx_board.specs.declared.colours.Colour.{Colour}
use Rattle.hx_board.specs.Colours.{other_of}
use Rattle.hx_board.specs.Positions.{Board, IsEmpty, put}
use Rattle.hx_board.specs.Graph.{HasChain}
use Rattle.hx_link.specs.Steps.{AreRightSteps}
use Rattle.hx_tree.specs.declared.nodes.Node.{Node}
use Rattle.hx_tree.specs.Headings.{IsHeading}
use Rattle.hx_tree.proofs.HeadingLaws.{leads-heading}
use Rattle.hx_tree.specs.Rules.{IsRightMove}
use Rattle.hx_tree.specs.Trees.{headings_of}
use Rattle.std.proofs.Common.{take}
use Rattle.hx_play.specs.declared.stands.Stage.TheVariants.{AtNode, InLinks}
use Rattle.hx_play.specs.declared.stands.Stand.{Stand}
use Rattle.hx_play.specs.Kept.{HasMoved, AreKept, IsMarked}
use Rattle.hx_play.specs.Standings.{KeepsLinksOf, IsAtNode, FitsStage, IsIn, StartsBy, Moves}
use Rattle.hx_law.proofs.WinLaws.{chain-put}
use Rattle.hx_tree.specs.declared.nodes.Rule.TheVariants.{Chain, Links}
use Rattle.std.proofs.Common.{[], set, ◌-◌, ◌<◌, ◌⊎◌, inl, inr, arith}
use Rattle.hx_board.proofs.ColourLaws.{other-differs}
use Rattle.hx_link.specs.declared.links.Kind.{Kind}
use Rattle.hx_link.specs.declared.links.Kind.TheVariants.{Full}
use Rattle.hx_link.specs.declared.steps.Step.{Step}
use Rattle.hx_tree.specs.declared.steps.TheConstants.{MOST_STEPS}
use Rattle.hx_tree.specs.Steps.{AreRightLinks}
use Rattle.hx_play.proofs.TakeLaws.{place-within, keep_due}
use Rattle.hx_play.proofs.StandLaws.{earlier_node, chain_right, starts_at_links}

pub replied : (nodes : List Node) (node : Node) (stand after : Stand) (board : Board) → IsIn nodes stand node → KeepsLinksOf node stand
    → after.winner ≡ stand.winner
    → after.to_move ≡ stand.to_move → after.node ≡ stand.node → after.stage ≡ InLinks → after.links ≡ stand.links
    → length after.marks.items ≡ length stand.marks.items → (result : Option ℕ)
    → MatchOption result (HasChain board node.heading.winner)
    (HasMoved node.heading.position node.heading.winner stand.links.items after.marks.items board after.position)
    → Moves nodes stand.winner board after result
replied nodes node stand after board is_in keeps winner_is mover_is node_is stage_is links_is long None chain =
    let W : Colour → Type 0 = λ p. HasChain board p in subst W is_in.same_winner chain
replied nodes node stand after board is_in keeps winner_is mover_is node_is stage_is links_is long (Some cell) moved =
    let N : ℕ → Type 0 = λ n. slice_get nodes n ≡ Some node in
    let place : KeepsLinksOf node after = record {
      others = mover_is ∙ keeps.others ∙ ap other_of (sym winner_is);
      right = rw links_is keeps.right;
      kept = rw links_is moved.kept;
    } in
    record {
      same_winner = winner_is;
      others = mover_is ∙ keeps.others;
      empty = moved.empty;
      moved = moved.moved ∙ ap (λ (p : Colour). put board p cell) is_in.same_winner;
      stands = record {
        node = node;
        is_in = record {
          tree = is_in.tree;
          plain = is_in.plain;
          has_room = record { room = rw links_is is_in.has_room.room; marks = long ∙ is_in.has_room.marks };
          there = subst N (sym node_is) is_in.there;
          same_winner = is_in.same_winner ∙ sym winner_is;
        };
        fits = subst (FitsStage node after) (sym stage_is) place;
      };
    }

-- after the winner's move to a child the player is at that child
pub moved_to_child : (nodes : List Node) (node : Node) (stand after : Stand) (cell child : ℕ) → IsIn nodes stand node → IsAtNode node stand
    → IsRightMove (headings_of (take stand.node nodes)) node.heading cell child → after.winner ≡ stand.winner
    → after.to_move ≡ other_of stand.winner → after.node ≡ child → after.stage ≡ AtNode
    → after.links ≡ stand.links → after.marks ≡ stand.marks → after.position ≡ put stand.position stand.winner cell
    → Moves nodes stand.winner stand.position after (Some cell)
moved_to_child nodes node stand after cell child is_in at right winner_is mover_is node_is stage_is links_is marks_is moved =
    let next : Board = put node.heading.position node.heading.winner cell in
    let w = earlier_node (IsHeading next (other_of node.heading.winner) node.heading.winner) nodes stand.node child
    (leads-heading next (other_of node.heading.winner) node.heading.winner (headings_of (take stand.node nodes)) child right.leads) in
    let N : ℕ → Type 0 = λ n. slice_get nodes n ≡ Some w.0 in
    let place : IsAtNode w.0 after = record {
      same_position = w.1.1.same_position ∙ (ap (λ (b : Board). put b node.heading.winner cell) at.same_position
          ∙ (ap (λ (p : Colour). put stand.position p cell) is_in.same_winner ∙ sym moved));
      same_mover = w.1.1.same_mover ∙ (ap other_of is_in.same_winner ∙ sym mover_is);
    } in
    record {
      same_winner = winner_is;
      others = mover_is;
      empty = (let E : Board → Type 0 = λ b. IsEmpty b cell in subst E at.same_position right.empty);
      moved = moved;
      stands = record {
        node = w.0;
        is_in = record {
          tree = is_in.tree;
          plain = is_in.plain;
          has_room = record { room = rw links_is is_in.has_room.room; marks = rw marks_is is_in.has_room.marks };
          there = subst N (sym node_is) w.1.0;
          same_winner = w.1.1.same_winner ∙ (is_in.same_winner ∙ sym winner_is);
        };
        fits = subst (FitsStage w.0 after) (sym stage_is) place;
      };
    }

-- where a node has a chain, the winner has one after any stone
pub chain_here : (nodes : List Node) (node : Node) (stand : Stand) (who : Colour) (cell : ℕ) → IsIn nodes stand node → IsAtNode node stand
    → node.rule ≡ Chain
    → HasChain (put stand.position who cell) stand.winner
chain_here nodes node stand who cell is_in at is =
    let C : Board → Colour → Type 0 = λ b p. HasChain b p in
    let here : HasChain node.heading.position node.heading.winner = chain_right nodes stand node is_in is in
    let moved : HasChain stand.position node.heading.winner = subst (λ b. C b node.heading.winner) at.same_position here in
    chain-put stand.winner stand.position who cell (subst (λ p. C stand.position p) is_in.same_winner moved)

-- the link by which links start is due
pub started : (node : Node) (stand : Stand) (place : ℕ) (s : StartsBy node stand place)
    → AreKept node.heading.position node.heading.winner stand.links.items stand.marks.items (Some s.link) None stand.position
started node stand place s = record {
  stones = s.stones;
  full = λ p l k. absurd (s.none p k.marked);
  left = λ p l k. absurd (s.none p k.marked);
  apart = λ one other first second k m differ. absurd (s.none one k.marked);
  due_left = s.left;
  due_apart = λ p l k. absurd (s.none p k.marked);
  lead = λ later stones joined due. rw (s.joins.first, s.joins.last) at due;
}

full_in_time : (kind : Kind) (mover winner : Colour) → mover ≡ other_of winner → (kind ≡ Full) ⊎ (mover ≡ winner) → kind ≡ Full
full_in_time kind mover winner others (inl full) = full
full_in_time kind mover winner others (inr own) = absurd (other-differs winner (sym own ∙ others))

-- a Links node with the opponent to move: its last link is kept
pub keeps_last : (node : Node) (stand after : Stand) (steps : List Step) (is : node.rule ≡ Links steps)
    (shown : AreRightLinks node.heading steps) → node.heading.to_move ≡ other_of node.heading.winner
    → (same : stand.position ≡ node.heading.position)
    (right : AreRightSteps node.heading.position node.heading.winner [] steps stand.links.items)
    (none : (p : ℕ) → IsMarked stand.marks.items p → ⊥) → length stand.marks.items ≡ MOST_STEPS
    → after.to_move ≡ other_of after.winner → after.links ≡ stand.links → after.position ≡ stand.position
    → after.marks.items ≡ set stand.marks.items (length steps - 1) true → KeepsLinksOf node after
keeps_last node stand after steps is shown mover same right none long others links_is position_is marks_is =
    let s : StartsBy node stand (length steps - 1) = starts_at_links node stand steps is shown same right none in
    let within : length steps - 1 < length steps =
    place-within node.heading.position node.heading.winner steps stand.links.items (length steps - 1)
    (starts_at_links node stand steps is shown same right none).link right
    (starts_at_links node stand steps is shown same right none).link_there in
    let kept = keep_due node.heading.position node.heading.winner stand.links.items stand.marks.items None stand.position (length steps - 1)
    (starts_at_links node stand steps is shown same right none).link
    (started node stand (length steps - 1) (starts_at_links node stand steps is shown same right none))
    (starts_at_links node stand steps is shown same right none).link_there
    (full_in_time shown.last.kind node.heading.to_move node.heading.winner mover shown.in_time)
    (omega (arith, shown.steps_right.few)) in
    record {
      others = others;
      right = rw links_is s.right;
      kept = rw (links_is, marks_is, position_is) kept;
    }
