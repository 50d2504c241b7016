-- Each link that right steps give holds, by induction on the steps, and in it by the rule of the step. The player wins
-- where a link between the two sides holds: the local game is play in a region, and the board is as good for play
-- anywhere. What holds with the opponent to move does so with the move too, so a Full link wins whoever is to move.
use Rattle.std.proofs.Common.{◌≡◌, ℕ, zero, suc, List, [], ◌∷◌, ◌++◌, refl, ◌⊎◌, inl, inr, ⊎_elim, Some}
use Rattle.std.specs.Prelude.{slice_get}
use Rattle.hx_board.specs.declared.colours.Colour.{Colour}
use Rattle.hx_board.specs.declared.vertices.Vertex.{Vertex}
use Rattle.hx_board.specs.declared.vertices.Vertex.TheVariants.{Of, First, Last}
use Rattle.hx_board.specs.Sets.{has, insert, union}
use Rattle.hx_board.specs.Colours.{other_of}
use Rattle.hx_board.specs.Positions.{Board}
use Rattle.hx_board.specs.Game.{Wins}
use Rattle.hx_law.specs.Play.{By_goal}
use Rattle.hx_board.proofs.ColourLaws.{one_or_other}
use Rattle.hx_law.proofs.PlayLaws.{as_good_itself}
use Rattle.hx_board.proofs.KeptStones.{joined_stays}
use Rattle.hx_law.proofs.WinLaws.{region_wins}
use Rattle.hx_link.specs.declared.links.Kind.{Kind}
use Rattle.hx_link.specs.declared.links.Kind.TheVariants.{Full, Semi}
use Rattle.hx_link.specs.declared.links.Link.{Link}
use Rattle.hx_link.specs.declared.steps.Step.{Step}
use Rattle.hx_link.specs.declared.steps.Step.TheVariants.{Base, AndStone, AndCell, Or}
use Rattle.hx_link.specs.Steps.{HasEnds, GivesBase, GivesAndStone, GivesAndCell, GivesOr, GivesByRule, GoesOver, carriers_of, AreRightSteps}
use Rattle.hx_link.specs.Named.{IsOneOf}
use Rattle.hx_link.specs.Steps.{IsChainLink}
use Rattle.hx_link.proofs.LinkLaws.{one_of-contains, contains-one_of, place_of, in_carriers}
use Rattle.hx_tree.specs.declared.nodes.Heading.{Heading}
use Rattle.hx_tree.specs.Steps.{AreRightLinks}
use Rattle.hx_proof.specs.Local.{IsJoined, Secures, mover_for, LinkHolds}
use Rattle.hx_proof.specs.Links.{EndInChainLink}
use Rattle.hx_proof.specs.Winners.{HeadingWins}
use Rattle.hx_proof.proofs.LocalGame.{in_reach_with_the_move, secures-sym}
use Rattle.hx_proof.proofs.AndSoundness.{and_stone_secures, and_cell_secures}
use Rattle.hx_proof.proofs.OrSoundness.{or_secures}

-- ---- lists of links

pub one_of_appended : (links : List Link) (link : Link) (k : ℕ) (part : Link) → slice_get (links ++ link ∷ []) k ≡ Some part
    → IsOneOf part links ⊎ (link ≡ part)
one_of_appended [] link zero part h = inr cc
one_of_appended [] link (suc k) part h = absurd cc
one_of_appended (l ∷ ls) link zero part h = inl (zero, h)
one_of_appended (l ∷ ls) link (suc k) part h = ⊎_elim (λ w. inl (suc w.0, w.1)) inr (one_of_appended ls link k part h)

module _ (board : Board) (player : Colour) where
  -- ---- what a step gives holds

  between : (link : Link) (x y : Vertex) (mover : Colour) → HasEnds link x y → Secures player link.carrier link.a link.b board mover
      → Secures player link.carrier x y board mover
  between link x y mover (inl e) s = rw (← e.0, ← e.1) s
  between link x y mover (inr e) s = rw (← e.0, ← e.1) (secures-sym player link.carrier link.a link.b board mover s)

  named : (link : Link) (carrier : ℕ) (x y : Vertex) (mover : Colour) → HasEnds link x y → Secures player carrier x y board mover
      → Secures player carrier link.a link.b board mover
  named link carrier x y mover (inl e) s = rw (e.0, e.1) s
  named link carrier x y mover (inr e) s = rw (e.0, e.1) (secures-sym player carrier x y board mover s)

  abbrev pub AllHold : List Link → Type 0
  AllHold links = (part : Link) → IsOneOf part links → LinkHolds board player part

  module _ (before : List Link) (holds : AllHold before) where
    full_secures : (place : ℕ) (link : Link) (x y : Vertex) → slice_get before place ≡ Some link → link.kind ≡ Full → HasEnds link x y
        → Secures player link.carrier x y board (other_of player)
    full_secures place link x y there kind ends = between link x y (other_of player) ends (rw kind at (holds link (place, there)))

    base_holds : (a b : Vertex) (link : Link) → GivesBase board player a b link → LinkHolds board player link
    base_holds a b link g = rw (g.kind, g.carrier) (named link 0 a b (other_of player) g.ends (By_goal board (other_of player) g.joined))

    and_stone_holds : (left right : ℕ) (link : Link) → GivesAndStone board player before left right link → LinkHolds board player link
    and_stone_holds left right link g =
        let o : GoesOver before left right g.middle link = g.over in
        rw (g.kind, g.carrier) (named link (union o.first.carrier o.second.carrier) o.from o.to (other_of player) o.ends
        (and_stone_secures player o.first.carrier o.second.carrier o.from o.to o.apart g.middle board g.own
        (full_secures left o.first o.from g.middle o.first_there o.first_full o.first_ends)
        (full_secures right o.second g.middle o.to o.second_there o.second_full o.second_ends)))

    and_cell_holds : (left right : ℕ) (link : Link) → GivesAndCell board before left right link → LinkHolds board player link
    and_cell_holds left right link g =
        let o : GoesOver before left right (Of g.cell) link = g.over in
        rw (g.kind, g.carrier) (named link (insert (union o.first.carrier o.second.carrier) g.cell) o.from o.to player o.ends
        (and_cell_secures player o.first.carrier o.second.carrier o.from o.to o.apart g.cell board g.empty g.outside_first
        g.outside_second
        (full_secures left o.first o.from (Of g.cell) o.first_there o.first_full o.first_ends)
        (full_secures right o.second (Of g.cell) o.to o.second_there o.second_full o.second_ends)))

    or_holds : (places : List ℕ) (link : Link) → GivesOr before places link → LinkHolds board player link
    or_holds places link g =
        rw (g.kind, g.carrier)
        (or_secures player (carriers_of g.links) link.a link.b (λ c. (part : Link) × (IsOneOf part g.links × (part.carrier ≡ c)))
        (λ c w n h. in_carriers g.links w.1.0.0 w.0 w.1.0.1 n (rw w.1.1 h))
        board
        (λ c w. rw (← w.1.1) (between w.0 link.a link.b player (g.same_ends w.0 (one_of-contains g.links w.0 w.1.0))
        (rw (g.semi w.0 (one_of-contains g.links w.0 w.1.0)) at
        (holds w.0 (let at = place_of before places g.links g.there w.1.0.0 w.0 w.1.0.1 in (at.0, at.1.1))))))
        (λ n. let w = g.none_in_all n in (w.0.carrier, ((w.0, (contains-one_of g.links w.0 w.1.0, refl)), w.1.1))))

    step_holds : (step : Step) (link : Link) → GivesByRule board player before step link → LinkHolds board player link
    step_holds (Base a b) link g = base_holds a b link g
    step_holds (AndStone left right) link g = and_stone_holds left right link g
    step_holds (AndCell left right) link g = and_cell_holds left right link g
    step_holds (Or parts) link g = or_holds parts link g

  links_hold : (before : List Link) (steps : List Step) (links : List Link) → AllHold before → AreRightSteps board player before steps links
      → AllHold links
  links_hold before [] links holds g = rw g holds
  links_hold before (step ∷ steps) links holds g =
      links_hold (before ++ g.0 ∷ []) steps links
      (λ part w. ⊎_elim (holds part) (λ e. rw (← e) (step_holds before holds step g.0 g.1.rule)) (one_of_appended before g.0 w.0 part w.1))
      g.2

  pub right_steps_give_what_holds : (steps : List Step) (links : List Link) → AreRightSteps board player [] steps links → AllHold links
  right_steps_give_what_holds steps links right = links_hold [] steps links (λ part w. absurd (cc w.1)) right

  -- ---- a link holds with the move

  with_the_move : (link : Link) (kind : Kind) → Secures player link.carrier link.a link.b board (mover_for player kind)
      → Secures player link.carrier link.a link.b board player
  with_the_move link Full secured =
      in_reach_with_the_move player (IsJoined player link.a link.b) (joined_stays player link.a link.b) (has link.carrier) board secured
  with_the_move link Semi secured = secured

  pub link_secures_with_the_move : (link : Link) → LinkHolds board player link → Secures player link.carrier link.a link.b board player
  link_secures_with_the_move link holds = with_the_move link link.kind holds

  -- ---- a link between the sides

  pub who_secures_the_sides_wins : (carrier : ℕ) (mover : Colour) → Secures player carrier First Last board mover → Wins player board mover
  who_secures_the_sides_wins carrier mover secured =
      region_wins player (has carrier) board board mover
      (record {
        keeps = (as_good_itself player (has carrier) board).keeps;
        free = λ n free.
            inl (record { inside = refl; empty = free.empty });
      })
      secured

  chain_link_wins : (link : Link) → LinkHolds board player link → IsChainLink link → Wins player board (mover_for player link.kind)
  chain_link_wins link holds joins =
      who_secures_the_sides_wins link.carrier (mover_for player link.kind) (rw (joins.first, joins.last) at holds)

  chain_link_wins_with_the_move : (link : Link) → LinkHolds board player link → IsChainLink link → Wins player board player
  chain_link_wins_with_the_move link holds joins =
      who_secures_the_sides_wins link.carrier player (rw (joins.first, joins.last) at (link_secures_with_the_move link holds))

  chain_link_wins_in_time : (link : Link) → LinkHolds board player link → IsChainLink link → (mover : Colour) → (link.kind ≡ Full)
      ⊎ (mover ≡ player) → Wins player board mover
  chain_link_wins_in_time link holds joins mover (inl full) =
      ⊎_elim (λ own. rw own (chain_link_wins_with_the_move link holds joins))
      (λ others. rw others (rw full at (chain_link_wins link holds joins))) (one_or_other mover player)
  chain_link_wins_in_time link holds joins mover (inr own) = rw own (chain_link_wins_with_the_move link holds joins)

  -- ---- right steps that end in a link between the sides

  pub end_in_chain_link_wins : (kind : Kind) (steps : List Step) → EndInChainLink board player kind steps
      → Wins player board (mover_for player kind)
  end_in_chain_link_wins kind steps end =
      rw end.same_kind at (chain_link_wins end.link
      (right_steps_give_what_holds steps end.links end.right end.link (_, end.is_last)) end.joins)

  pub end_in_chain_link_wins_with_the_move : (kind : Kind) (steps : List Step) → EndInChainLink board player kind steps
      → Wins player board player
  end_in_chain_link_wins_with_the_move kind steps end =
      chain_link_wins_with_the_move end.link (right_steps_give_what_holds steps end.links end.right end.link (_, end.is_last)) end.joins

pub right_links_win : (heading : Heading) (steps : List Step) → AreRightLinks heading steps → HeadingWins heading
right_links_win heading steps right =
    chain_link_wins_in_time heading.position heading.winner right.last
    (right_steps_give_what_holds heading.position heading.winner steps right.links right.steps_right.right right.last
    (_, right.is_last))
    right.joins heading.to_move right.in_time
