-- What a node says: in this position, with this player to move, this player wins.
use Rattle.std.specs.Prelude.{◌≡◌, ℕ, List, slice_get}
use Rattle.std.specs.declared.option.Option.TheVariants.{Some}
use Rattle.hx_board.specs.declared.colours.Colour.{Colour}
use Rattle.hx_board.specs.Positions.{Board}
use Rattle.hx_tree.specs.declared.nodes.Heading.{Heading}

-- an earlier heading says that the winner wins the board with this player to move
abbrev pub Leads : List Heading → ℕ → Board → Colour → Colour → Type 0
Leads before child board mover winner =
    slice_get before child ≡ Some (record { position = board; to_move = mover; winner = winner })

-- ---- for books, functions and proofs

-- a heading with this position, mover and winner
pub record IsHeading (board : Board) (mover winner : Colour) (heading : Heading) : Type 0 where
  pub same_position : heading.position ≡ board
  pub same_mover : heading.to_move ≡ mover
  pub same_winner : heading.winner ≡ winner

-- the heading with this position, mover and winner
abbrev pub heading_of : Board → Colour → Colour → Heading
heading_of board mover winner = record { position = board; to_move = mover; winner = winner }
