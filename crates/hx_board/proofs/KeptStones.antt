-- Boards on which a player has at least the same stones: what is joined there stays joined.
use Rattle.std.proofs.Common.{◌≡◌, ℕ, List, [], ◌∷◌, true, inl, inr}
use Rattle.hx_board.specs.declared.colours.Colour.{Colour}
use Rattle.hx_board.specs.declared.vertices.Vertex.{Vertex}
use Rattle.hx_board.specs.declared.vertices.Vertex.TheVariants.{Of, First, Last}
use Rattle.hx_board.specs.Sets.{has}
use Rattle.hx_board.specs.Positions.{Board, put, stones_of}
use Rattle.hx_board.specs.Graph.{IsOwn, Walk, Joined}
use Rattle.hx_board.proofs.StoneLaws.{size-put, stones-put}

module _ (player : Colour) where
  -- no stone of the player is lost
  pub record KeepsStones (before after : Board) : Type 0 where
    pub same_size : after.size ≡ before.size
    pub own : (n : ℕ) → has (stones_of before player) n ≡ true → has (stones_of after player) n ≡ true

  pub keeps_put : (board : Board) (who : Colour) (cell : ℕ) → KeepsStones board (put board who cell)
  keeps_put board who cell = record { same_size = size-put board who cell; own = λ n h. (stones-put board who player cell n).1 (inr h) }

  pub own_stays : (before after : Board) → KeepsStones before after → (vertex : Vertex) → IsOwn before player vertex
      → IsOwn after player vertex
  own_stays before after keeps (Of cell) own = keeps.own cell own
  own_stays before after keeps First own = tt
  own_stays before after keeps Last own = tt

  walk_stays : (before after : Board) → KeepsStones before after → (from : Vertex) (inner : List Vertex) (to : Vertex)
      → Walk before player from inner to → Walk after player from inner to
  walk_stays before after keeps from [] to touch = rw keeps.same_size touch
  walk_stays before after keeps from (next ∷ rest) to walk =
      (rw keeps.same_size walk.0, own_stays before after keeps next walk.1, walk_stays before after keeps next rest to walk.2)

  pub joined_stays : (from to : Vertex) (before after : Board) → KeepsStones before after → Joined before player from to
      → Joined after player from to
  joined_stays from to before after keeps (inl same) = inl same
  joined_stays from to before after keeps (inr walk) = inr (walk.0, walk_stays before after keeps from walk.0 to walk.1)
