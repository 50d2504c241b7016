-- The game that a link is a claim about: inside a set of cells a player wants two vertices joined.
use Rattle.std.specs.Prelude.{ℕ}
use Rattle.hx_board.specs.declared.colours.Colour.{Colour}
use Rattle.hx_board.specs.declared.vertices.Vertex.{Vertex}
use Rattle.hx_board.specs.Sets.{has}
use Rattle.hx_board.specs.Colours.{other_of}
use Rattle.hx_board.specs.Positions.{Board}
use Rattle.hx_board.specs.Graph.{Joined}
use Rattle.hx_law.specs.Play.{Plays}
use Rattle.hx_link.specs.declared.links.Kind.{Kind}
use Rattle.hx_link.specs.declared.links.Kind.TheVariants.{Full, Semi}
use Rattle.hx_link.specs.declared.links.Link.{Link}

abbrev pub IsJoined : Colour → Vertex → Vertex → Board → Type 0
IsJoined player from to board = Joined board player from to

-- the local game of two ends on a carrier: the ends are joined; or the mover is the player, and some empty cell of the
-- carrier has it after the player's stone; or the mover is the opponent, some cell of the carrier is empty, and each
-- empty cell of it has it after the opponent's stone. The carrier stays the same set in play, and its empty cells are
-- the ones that are played on: a cell that was played is empty no more, so this is the same as to take it out of the
-- carrier
abbrev pub Secures : Colour → ℕ → Vertex → Vertex → Board → Colour → Type 0
Secures player carrier from to board mover = Plays player (has carrier) (IsJoined player from to) board mover

-- who moves first for a link of this kind: the opponent where it is Full, the player where it is Semi
abbrev pub mover_for : Colour → Kind → Colour
mover_for player Full = other_of player
mover_for player Semi = player

-- what the link says is so
abbrev pub LinkHolds : Board → Colour → Link → Type 0
LinkHolds board player link = Secures player link.carrier link.a link.b board (mover_for player link.kind)
