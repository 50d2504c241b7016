-- Play in a region of the board, for a goal that further stones of the player do not spoil: it stays in reach in a
-- larger region, with a move more, after a stone outside the region, and together with what is reached already. All but
-- the last by the laws of play on a board that is as good, the last by induction on the play.
use Rattle.std.proofs.Common.{◌≡◌, ℕ, Bool, true, refl, inl, inr}
use Rattle.hx_board.specs.declared.colours.Colour.{Colour}
use Rattle.hx_board.specs.declared.vertices.Vertex.{Vertex}
use Rattle.hx_board.specs.Sets.{has}
use Rattle.hx_board.specs.Colours.{other_of}
use Rattle.hx_board.specs.Positions.{Board, put}
use Rattle.hx_board.proofs.Joins.{joined-sym}
use Rattle.hx_law.specs.Play.{Plays, By_goal, By_move, By_answers}
use Rattle.hx_board.proofs.KeptStones.{KeepsStones, keeps_put}
use Rattle.hx_law.proofs.PlayLaws.{as_good_itself, as_good_more, kept}
use Rattle.hx_proof.specs.Local.{IsJoined, Secures}

abbrev pub Goal : Type 1
Goal = Board → Type 0

module _ (player : Colour) where
  abbrev other : Colour
  other = other_of player

  -- further stones of the player do not spoil the goal
  abbrev pub Stays : Goal → Type 0
  Stays G = (before after : Board) → KeepsStones player before after → G before → G after

  module _ (G : Goal) (stays : Stays G) where
    pub in_reach_in_more_room : (region larger : ℕ → Bool) → ((n : ℕ) → region n ≡ true → larger n ≡ true)
        → (board : Board) (mover : Colour) → Plays player region G board mover → Plays player larger G board mover
    in_reach_in_more_room region larger more board mover =
        (kept player G stays larger board).better region board mover
        (record {
          keeps = (as_good_itself player region board).keeps;
          free = λ n free.
              inl (record { inside = more n free.inside; empty = free.empty });
        })

    pub in_reach_with_the_move : (region : ℕ → Bool) (board : Board) → Plays player region G board other
        → Plays player region G board player
    in_reach_with_the_move region board win = (kept player G stays region board).move_more other refl win

    pub in_reach_after_stone_outside : (region : ℕ → Bool) (board : Board) (who : Colour) (cell : ℕ) → ¬ (region cell ≡ true)
        → (mover : Colour) → Plays player region G board mover → Plays player region G (put board who cell) mover
    in_reach_after_stone_outside region board who cell outside mover =
        (kept player G stays region (put board who cell)).better region board mover
        (as_good_more player region region board board (as_good_itself player region board) who cell (inr (λ free. outside free.inside)))

  -- a goal that is reached stays so while the player pursues another
  pub in_reach_beside_reached : (region : ℕ → Bool) (G H K : Goal) → Stays G → ((board : Board) → G board → H board → K board)
      → (board : Board) (mover : Colour) → G board → Plays player region H board mover → Plays player region K board mover
  in_reach_beside_reached region G H K stays both board mover reached (By_goal _ _ goal) = By_goal board mover (both board reached goal)
  in_reach_beside_reached region G H K stays both board mover reached (By_move _ _ cell own free win) =
      By_move board mover cell own free
      (in_reach_beside_reached region G H K stays both (put board player cell) other
      (stays board (put board player cell) (keeps_put player board player cell) reached) win)
  in_reach_beside_reached region G H K stays both board mover reached (By_answers _ _ some others free all) =
      By_answers board mover some others free
      (λ cell here. in_reach_beside_reached region G H K stays both (put board other cell) player
      (stays board (put board other cell) (keeps_put player board other cell) reached) (all cell here))

  -- what is joined is joined both ways
  pub secures-sym : (carrier : ℕ) (from to : Vertex) (board : Board) (mover : Colour) → Secures player carrier from to board mover
      → Secures player carrier to from board mover
  secures-sym carrier from to board mover =
      in_reach_beside_reached (has carrier) (λ b. Unit {0}) (IsJoined player from to) (IsJoined player to from)
      (λ before after keeps reached. reached) (λ b reached join. joined-sym b player from to join) board mover tt
