-- A stone more and a move more keep a win: the game is play on the whole board with a chain as the goal, and a chain
-- stays when the player gets stones.
use Rattle.std.proofs.Common.{ℕ, Bool, true, refl, inl}
use Rattle.hx_board.specs.declared.colours.Colour.{Colour}
use Rattle.hx_board.specs.declared.vertices.Vertex.TheVariants.{First, Last}
use Rattle.hx_board.specs.Colours.{other_of}
use Rattle.hx_board.specs.Positions.{Board, put}
use Rattle.hx_board.specs.Graph.{HasChain}
use Rattle.hx_board.specs.Game.{Wins, By_chain, By_move, By_answers}
use Rattle.hx_board.proofs.KeptStones.{keeps_put, joined_stays}
use Rattle.hx_law.specs.Laws.{ExtraStone, ExtraMove}
use Rattle.hx_law.specs.Play.{Plays, By_goal, By_move as Play_move, By_answers as Play_answers}
use Rattle.hx_law.proofs.PlayLaws.{IsAsGood, as_good_itself, as_good_more, kept}

module _ (player : Colour) where
  abbrev other : Colour
  other = other_of player

  pub chain-put : (board : Board) (who : Colour) (cell : ℕ) → HasChain board player → HasChain (put board who cell) player
  chain-put board who cell = joined_stays player First Last board (put board who cell) (keeps_put player board who cell)

  abbrev pub everywhere : ℕ → Bool
  everywhere cell = true

  abbrev pub Chain : Board → Type 0
  Chain board = HasChain board player

  wins-plays : (board : Board) (mover : Colour) → Wins player board mover → Plays player everywhere Chain board mover
  wins-plays board mover (By_chain _ _ chain) = By_goal board mover chain
  wins-plays board mover (By_move _ _ cell own empty win) =
      Play_move board mover cell own (record { inside = refl; empty = empty }) (wins-plays (put board player cell) other win)
  wins-plays board mover (By_answers _ _ some others empty all) =
      Play_answers board mover some others (record { inside = refl; empty = empty })
      (λ cell free. wins-plays (put board other cell) player (all cell free.empty))

  plays-wins : (board : Board) (mover : Colour) → Plays player everywhere Chain board mover → Wins player board mover
  plays-wins board mover (By_goal _ _ chain) = By_chain board mover chain
  plays-wins board mover (Play_move _ _ cell own free win) =
      By_move board mover cell own free.empty (plays-wins (put board player cell) other win)
  plays-wins board mover (Play_answers _ _ some others free all) =
      By_answers board mover some others free.empty
      (λ cell empty. plays-wins (put board other cell) player (all cell (record { inside = refl; empty = empty })))

  pub extra_stone : (board : Board) (mover : Colour) (cell : ℕ) → ExtraStone board mover player cell
  extra_stone board mover cell win =
      let good = as_good_more player everywhere everywhere board board (as_good_itself player everywhere board) player cell (inl refl) in
      plays-wins (put board player cell) mover
      ((kept player Chain (joined_stays player First Last) everywhere (put board player cell)).better everywhere board mover good
      (wins-plays board mover win))

  pub extra_move : (board : Board) → ExtraMove board player
  extra_move board win =
      plays-wins board player
      ((kept player Chain (joined_stays player First Last) everywhere board).move_more other refl (wins-plays board other win))

  -- who reaches a chain by moves in a region wins each board that is as good
  pub region_wins : (region : ℕ → Bool) (before after : Board) (mover : Colour) → IsAsGood player region everywhere before after
      → Plays player region Chain before mover → Wins player after mover
  region_wins region before after mover good win =
      plays-wins after mover ((kept player Chain (joined_stays player First Last) everywhere after).better region before mover good win)
