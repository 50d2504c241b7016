-- A player's graph, and what is joined in it.
use Rattle.std.specs.Prelude.{◌≡◌, ℕ, ◌+◌, true, false, List, [], ◌∷◌, ◌⊎◌}
use Rattle.hx_board.specs.declared.colours.Colour.{Colour}
use Rattle.hx_board.specs.declared.colours.Colour.TheVariants.{Black, White}
use Rattle.hx_board.specs.declared.vertices.Vertex.{Vertex}
use Rattle.hx_board.specs.declared.vertices.Vertex.TheVariants.{Of, First, Last}
use Rattle.hx_board.specs.Sets.{has}
use Rattle.hx_board.specs.Colours.{other_of}
use Rattle.hx_board.specs.Cells.{Extent, OnBoard, CellsTouch, row_of, col_of}
use Rattle.hx_board.specs.Positions.{Board, stones_of}

-- the line of cells along a player's first side: the top for Black, the left for White
abbrev pub IsFirstLine : Colour → ℕ → Type 0
IsFirstLine Black cell = row_of cell ≡ 0
IsFirstLine White cell = col_of cell ≡ 0

-- and along the last side: the bottom for Black, the right for White
abbrev pub IsLastLine : Extent → Colour → ℕ → Type 0
IsLastLine size Black cell = row_of cell + 1 ≡ size.rows
IsLastLine size White cell = col_of cell + 1 ≡ size.cols

-- a vertex of a player's graph: a cell of the board, or one of the player's two sides
abbrev pub IsVertex : Extent → Vertex → Type 0
IsVertex size (Of cell) = OnBoard size cell
IsVertex size First = Unit {0}
IsVertex size Last = Unit {0}

-- two vertices of a player's graph touch
abbrev pub Touches : Extent → Colour → Vertex → Vertex → Type 0
Touches size player (Of cell) (Of other) = OnBoard size cell × OnBoard size other × CellsTouch cell other
Touches size player (Of cell) First = OnBoard size cell × IsFirstLine player cell
Touches size player (Of cell) Last = OnBoard size cell × IsLastLine size player cell
Touches size player First (Of cell) = OnBoard size cell × IsFirstLine player cell
Touches size player Last (Of cell) = OnBoard size cell × IsLastLine size player cell
Touches size player _ _ = ⊥

-- a stone of the player or a side of the player
abbrev pub IsOwn : Board → Colour → Vertex → Type 0
IsOwn board player (Of cell) = has (stones_of board player) cell ≡ true
IsOwn board player First = Unit {0}
IsOwn board player Last = Unit {0}

-- no stone of the player's opponent
abbrev pub IsOpen : Board → Colour → Vertex → Type 0
IsOpen board player (Of cell) = has (stones_of board (other_of player)) cell ≡ false
IsOpen board player First = Unit {0}
IsOpen board player Last = Unit {0}

-- a walk from one vertex to another, by its inner vertices, each of which is the player's own
abbrev pub Walk : Board → Colour → Vertex → List Vertex → Vertex → Type 0
Walk board player from [] to = Touches board.size player from to
Walk board player from (next ∷ rest) to =
    Touches board.size player from next × IsOwn board player next × Walk board player next rest to

-- some walk leads from one to the other; a walk may be one vertex alone
abbrev pub Joined : Board → Colour → Vertex → Vertex → Type 0
Joined board player from to = (from ≡ to) ⊎ ((inner : List Vertex) × Walk board player from inner to)

-- the player's two sides are joined
abbrev pub HasChain : Board → Colour → Type 0
HasChain board player = Joined board player First Last

-- neither player has a chain
abbrev pub HasNoChain : Board → Type 0
HasNoChain board = (player : Colour) → HasChain board player → ⊥

-- one player's graph on a board
pub record Grouped : Type 0 where
  pub board : Board
  pub player : Colour
