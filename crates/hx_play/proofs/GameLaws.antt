-- A move that leads to where the player stands again is one after which the winner wins.
use Rattle.std.proofs.Common.{◌≡◌, ◌↔◌, ℕ, List, length, sym, ◌∙◌, subst, Option, Some, None, ⊎_elim}
use Rattle.std.specs.Prelude.{IsNone, IfNone, IfSome, slice_get}
use Rattle.hx_board.proofs.ColourLaws.{other-differs}
use Rattle.std.specs.Vec.{vec_capacity}
use Rattle.hx_tree.specs.Trees.{IsValidTree}
use Rattle.hx_tree.specs.declared.steps.TheConstants.{MOST_STEPS}
use Rattle.hx_board.specs.Graph.{HasChain}
use Rattle.hx_board.specs.declared.colours.Colour.{Colour}
use Rattle.hx_board.specs.Colours.{other_of}
use Rattle.hx_board.specs.Positions.{Board, put}
use Rattle.hx_board.specs.Game.{Wins}
use Rattle.hx_tree.specs.declared.nodes.Node.{Node}
use Rattle.hx_play.specs.declared.stands.Stage.TheVariants.{AtNode}
use Rattle.hx_play.specs.declared.stands.Stand.{Stand}
use Rattle.hx_tree.specs.Plain.{ArePlain}
use Rattle.hx_play.specs.Games.{Game, NeedsNoMove, PlaysMove}
use Rattle.hx_play.specs.Standings.{StandsAfter, Moves, StandsAt, IsAtNode, FitsStage}
use Rattle.hx_play.proofs.StandLaws.{stands_wins}

pub same_game : (a b : Board) (p q m n : Colour) → a ≡ b → p ≡ q → m ≡ n
    → (let g : Game = record { position = a; winner = p; to_move = m } in g) ≡ record { position = b; winner = q; to_move = n }
same_game a b p q m n e f g = cc

pub plays_move : (nodes : List Node) (winner : Colour) (before : Board) (stand : Stand) (cell : ℕ)
    → StandsAfter nodes winner before stand cell
    → PlaysMove winner before (record { position = stand.position; winner = stand.winner; to_move = stand.to_move }) cell
plays_move nodes winner before stand cell after =
    let wins : Wins stand.winner stand.position stand.to_move = stands_wins nodes stand after.stands in
    let W : Colour → Type 0 = λ p. Wins p stand.position stand.to_move in
    let M : Colour → Type 0 = λ m. Wins winner stand.position m in
    let B : Board → Type 0 = λ b. Wins winner b (other_of winner) in
    record {
      empty = after.empty;
      moved = same_game stand.position (put before winner cell) stand.winner winner stand.to_move
          (other_of winner) after.moved after.same_winner after.others;
      wins = subst B after.moved (subst M after.others (subst W after.same_winner wins));
    }

-- the first move, where it is the winner's turn and there is no chain
module _ (nodes : List Node) (stand after : Stand) (turn : stand.to_move ≡ stand.winner)
    (going : ¬ HasChain stand.position stand.winner) where
  abbrev view : Stand → Game
  view s = record { position = s.position; winner = s.winner; to_move = s.to_move }

  pub first_due : (result : Option ℕ) → Moves nodes stand.winner stand.position after result → IsNone result ↔ NeedsNoMove (view stand)
  first_due None chain = absurd (going chain)
  first_due (Some cell) moved =
      (λ none. absurd (cc none), λ needs. absurd (⊎_elim (λ others. other-differs stand.winner (sym turn ∙ others)) going needs))

  pub first_same : (Same : Type 0) (result : Option ℕ) → Moves nodes stand.winner stand.position after result → IfNone result Same
  first_same Same None chain = absurd (going chain)
  first_same Same (Some cell) moved = tt

  pub first_plays : (result : Option ℕ) → Moves nodes stand.winner stand.position after result
      → IfSome result (PlaysMove stand.winner stand.position (view after))
  first_plays None chain = absurd (going chain)
  first_plays (Some cell) moved = plays_move nodes stand.winner stand.position after cell moved

-- at the root
pub new_stands : (nodes : List Node) (root : Node) (stand : Stand) → IsValidTree nodes → ArePlain nodes
    → slice_get nodes stand.node ≡ Some root → root.heading.winner ≡ stand.winner
    → root.heading.position ≡ stand.position → root.heading.to_move ≡ stand.to_move → stand.stage ≡ AtNode
    → vec_capacity stand.links ≡ MOST_STEPS → length stand.marks.items ≡ MOST_STEPS
    → StandsAt nodes stand
new_stands nodes root stand valid plain there winner_is position_is mover_is stage_is room long = record {
  node = root;
  is_in = record {
    tree = valid.right;
    plain = plain;
    has_room = record { room = room; marks = long };
    there = there;
    same_winner = winner_is;
  };
  fits = subst (FitsStage root stand) (sym stage_is)
      (let at : IsAtNode root stand = record { same_position = position_is; same_mover = mover_is } in at);
}
