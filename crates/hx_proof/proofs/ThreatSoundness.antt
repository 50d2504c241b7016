-- A move of the opponent's that leaves a threat whole loses. A threat is a link of the player's between the two sides;
-- with the move the player secures its ends in its carrier, and does so still after a stone outside the carrier.
use Rattle.std.proofs.Common.{◌≡◌, ℕ, List, false, sym, ◌∙◌, subst, Option}
use Rattle.std.proofs.lemmas.Bool.{false≢true}
use Rattle.std.specs.Prelude.{slice_get, IfSome, IsSomeAnd}
use Rattle.hx_board.specs.declared.colours.Colour.{Colour}
use Rattle.hx_board.specs.Sets.{has}
use Rattle.hx_board.specs.Colours.{other_of}
use Rattle.hx_board.specs.Positions.{Board, put}
use Rattle.hx_board.specs.Game.{Wins}
use Rattle.hx_board.proofs.KeptStones.{joined_stays}
use Rattle.hx_link.specs.declared.links.Link.{Link}
use Rattle.hx_link.specs.Steps.{IsChainLink}
use Rattle.hx_tree.specs.Steps.{IsThreat, IsOutsideThreat}
use Rattle.hx_board.proofs.ListLaws.{of_contained}
use Rattle.hx_proof.specs.Local.{IsJoined, LinkHolds}
use Rattle.hx_proof.proofs.LocalGame.{in_reach_after_stone_outside}
use Rattle.hx_proof.proofs.LinkSoundness.{AllHold, link_secures_with_the_move, who_secures_the_sides_wins}

module _ (board : Board) (player : Colour) where
  link_left_whole_wins : (link : Link) → LinkHolds board player link → IsChainLink link → (cell : ℕ) → has link.carrier cell ≡ false
      → Wins player (put board (other_of player) cell) player
  link_left_whole_wins link holds joins cell outside =
      who_secures_the_sides_wins (put board (other_of player) cell) player link.carrier player
      (rw (joins.first, joins.last) at (in_reach_after_stone_outside player (IsJoined player link.a link.b)
      (joined_stays player link.a link.b) (has link.carrier) board (other_of player) cell
      (λ inside. false≢true (sym outside ∙ inside)) player (link_secures_with_the_move board player link holds)))

  pub threat_left_whole_wins : (links : List Link) → AllHold board player links → (threats : List ℕ)
      → ((k : ℕ) → IfSome (slice_get threats k) (IsThreat links)) → (cell : ℕ)
      → IsOutsideThreat links threats cell → Wins player (put board (other_of player) cell) player
  threat_left_whole_wins links holds threats each cell outside =
      let Joins : Option Link → Type 0 = λ found. IsSomeAnd found IsChainLink in
      let joins : IsChainLink outside.link =
      subst Joins outside.there (of_contained (IsThreat links) threats outside.place each outside.is_threat) in
      link_left_whole_wins outside.link (holds outside.link (outside.place, outside.there)) joins cell outside.outside
