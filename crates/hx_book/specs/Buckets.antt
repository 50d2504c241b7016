-- The buckets of a book and its two sets of chains, for the functions inside the crate. One has an entry's bucket by
-- its position and mover, and the other by its winner's stones and its mover, so that the entries which may be wider
-- than a position are in one bucket.
--
-- The size is not in the bucket by stones, since the positions of a search are of one size; nor is the winner, who is
-- told by the colour of the stones unless there are none. In the bucket by position a remainder in place of the product
-- took a find a fifth longer.
use Rattle.std.specs.Prelude.{ℕ, ◌*◌, ◌/◌, ◌^◌, ◌≤◌, List}
use Rattle.hx_board.specs.declared.colours.Colour.{Colour}
use Rattle.hx_board.specs.declared.colours.Colour.TheVariants.{Black, White}
use Rattle.hx_board.specs.Positions.{Board}
use Rattle.hx_turn.specs.Keys.{folded_key}
use Rattle.hx_tree.specs.declared.nodes.Node.{Node}
use Rattle.hx_book.specs.Entries.{IsBook}
use Rattle.hx_book.specs.Chains.{Links, AreChains}

-- the bucket of a position and mover: as far into the buckets as their key is into the numbers below 2^64
unfoldable pub bucket_of : ℕ → Board → Colour → ℕ
bucket_of buckets board mover = folded_key board mover * buckets / 2 ^ 64

-- the board with the stones of one player alone
abbrev pub alone_of : Board → Colour → Board
alone_of board Black = record board { white = 0 }
alone_of board White = record board { black = 0 }

-- the bucket of a player's stones and a mover
abbrev pub stones_bucket_of : ℕ → Board → Colour → Colour → ℕ
stones_bucket_of buckets board mover winner = bucket_of buckets (alone_of board winner) mover

-- a node's bucket by its position and mover, and by its winner's stones and its mover
abbrev pub position_key : ℕ → Node → ℕ
position_key buckets node = bucket_of buckets node.heading.position node.heading.to_move

abbrev pub stones_key : ℕ → Node → ℕ
stones_key buckets node = stones_bucket_of buckets node.heading.position node.heading.to_move node.heading.winner

-- the fields of a book: its chains are right, and there is room for all that it may hold
pub record FieldsKeep (slots : ℕ) (nodes : List Node) (by_position by_stones : Links) (room : ℕ) : Type 0 where
  pub book : IsBook (record { slots = slots; nodes = nodes })
  pub position_chains : AreChains position_key nodes by_position.heads by_position.next
  pub stones_chains : AreChains stones_key nodes by_stones.heads by_stones.next
  pub node_room : slots ≤ room
  pub position_room : slots ≤ by_position.room
  pub stones_room : slots ≤ by_stones.room
