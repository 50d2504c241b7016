-- A look for an entry that serves a position. In a plain list that is the position's own. In any other it may lead on
-- by fill steps: in the entry's position the winner has the same stones and the opponent has all of the board's and
-- maybe more, so from the board one stone of the opponent's after another leads there.
use Rattle.std.specs.Prelude.{◌≡◌, ℕ, List, slice_get, Bool, true, false, Option, MatchOption}
use Rattle.std.specs.declared.option.Option.TheVariants.{Some}
use Rattle.hx_board.specs.declared.colours.Colour.{Colour}
use Rattle.hx_board.specs.Colours.{other_of}
use Rattle.hx_board.specs.Sets.{IsSubset}
use Rattle.hx_board.specs.Positions.{Board, stones_of}
use Rattle.hx_tree.specs.declared.nodes.Heading.{Heading}
use Rattle.hx_tree.specs.declared.nodes.Node.{Node}
use Rattle.hx_tree.specs.Headings.{IsHeading}
use Rattle.hx_book.specs.declared.wider.Wider.{Wider}

-- a heading of this size, mover and winner, with the same stones of the winner and each of the board's stones of the
-- opponent
pub record IsWider (heading : Heading) (board : Board) (mover winner : Colour) : Type 0 where
  pub same_size : heading.position.size ≡ board.size
  pub same_mover : heading.to_move ≡ mover
  pub same_winner : heading.winner ≡ winner
  pub same_stones : stones_of heading.position winner ≡ stones_of board winner
  pub has_opponents : IsSubset (stones_of board (other_of winner)) (stones_of heading.position (other_of winner))

-- the heading serves the board: in a plain list it is the board's own, and else it is wider
abbrev pub Serves : Bool → Heading → Board → Colour → Colour → Type 0
Serves true heading board mover winner = IsHeading board mover winner heading
Serves false heading board mover winner = IsWider heading board mover winner

-- the node at this place serves the board
pub record IsWiderEntry (plain : Bool) (nodes : List Node) (board : Board) (mover winner : Colour) (place : ℕ)
    : Type 0 where
  pub node : Node
  pub there : slice_get nodes place ≡ Some node
  pub is_wider : Serves plain node.heading board mover winner

-- no node serves it
abbrev pub HasNoWider : Bool → List Node → Board → Colour → Colour → Type 0
HasNoWider plain nodes board mover winner = (place : ℕ) → IsWiderEntry plain nodes board mover winner place → ⊥

-- what was found is an entry that serves the board, with its winner and its position
pub record IsWiderFound (plain : Bool) (nodes : List Node) (board : Board) (mover winner : Colour) (wider : Wider)
    : Type 0 where
  pub entry : IsWiderEntry plain nodes board mover winner wider.found.index
  pub same_winner : wider.found.winner ≡ winner
  pub same_position : wider.position ≡ entry.node.heading.position

-- some entry that serves the board was found, or nothing, where there is none
abbrev pub FindsWider : Bool → List Node → Board → Colour → Colour → Option Wider → Type 0
FindsWider plain nodes board mover winner result =
    MatchOption result (HasNoWider plain nodes board mover winner) (IsWiderFound plain nodes board mover winner)
