-- The link that a step gives. Links are named by their places in the list of those before the step.
use Rattle.std.specs.Prelude.{◌≡◌, ℕ, ◌<◌, ◌≤◌, ◌↔◌, true, false, List, [], ◌∷◌, ◌++◌, map, length, slice_get, Contains}
use Rattle.std.specs.Prelude.{◌⊎◌}
use Rattle.std.specs.declared.option.Option.TheVariants.{Some}
use Rattle.hx_board.specs.declared.colours.Colour.{Colour}
use Rattle.hx_board.specs.declared.vertices.Vertex.{Vertex}
use Rattle.hx_board.specs.declared.vertices.Vertex.TheVariants.{Of, First, Last}
use Rattle.hx_board.specs.Sets.{has, insert, union, ShareNone}
use Rattle.hx_board.specs.Cells.{OnBoard}
use Rattle.hx_board.specs.Positions.{Board, IsEmpty}
use Rattle.hx_board.specs.Graph.{IsOwn, IsOpen, Joined}
use Rattle.hx_board.specs.VertexSets.{code_of, IsSomeVertex}
use Rattle.hx_link.specs.declared.links.Kind.TheVariants.{Full, Semi}
use Rattle.hx_link.specs.declared.links.Allowed.{Allowed}
use Rattle.hx_link.specs.declared.links.Link.{Link}
use Rattle.hx_link.specs.declared.parts.TheConstants.{MOST_PARTS}
use Rattle.hx_link.specs.declared.steps.Step.{Step}
use Rattle.hx_link.specs.declared.steps.Step.TheVariants.{Base, AndStone, AndCell, Or}

-- a vertex that may be an end: a side, or a cell of the board that is no stone of the opponent
abbrev pub IsEnd : Board → Colour → Vertex → Type 0
IsEnd board player (Of cell) = OnBoard board.size cell × IsOpen board player (Of cell)
IsEnd board player First = Unit {0}
IsEnd board player Last = Unit {0}

-- there can be this link: it has two ends, the lower in vertex order first, and none is an empty cell of the carrier
pub record IsLink (board : Board) (player : Colour) (link : Link) : Type 0 where
  pub lower_first : code_of link.a < code_of link.b
  pub a_end : IsEnd board player link.a
  pub b_end : IsEnd board player link.b
  pub outside : (cell : ℕ) → IsEmpty board cell → (link.a ≡ Of cell) ⊎ (link.b ≡ Of cell)
      → has link.carrier cell ≡ false

-- these are the empty cells of the board, and the vertices that may be ends of the player's links
pub record IsAllowed (allowed : Allowed) (board : Board) (player : Colour) : Type 0 where
  pub empties : (cell : ℕ) → (has allowed.empties cell ≡ true) ↔ IsEmpty board cell
  pub ends : (vertex : Vertex) → IsSomeVertex vertex
      → (has allowed.ends (code_of vertex) ≡ true) ↔ IsEnd board player vertex

-- the link's ends are these, in either order
abbrev pub HasEnds : Link → Vertex → Vertex → Type 0
HasEnds link x y = ((link.a ≡ x) × (link.b ≡ y)) ⊎ ((link.a ≡ y) × (link.b ≡ x))

-- the link joins the player's two sides
pub record IsChainLink (link : Link) : Type 0 where
  pub first : link.a ≡ First
  pub last : link.b ≡ Last

-- the link joins the other ends of two earlier Full links that end in the middle and share no cell
pub record GoesOver (before : List Link) (left right : ℕ) (middle : Vertex) (link : Link) : Type 0 where
  pub first : Link
  pub second : Link
  pub from : Vertex
  pub to : Vertex
  pub first_there : slice_get before left ≡ Some first
  pub second_there : slice_get before right ≡ Some second
  pub first_full : first.kind ≡ Full
  pub second_full : second.kind ≡ Full
  pub first_ends : HasEnds first from middle
  pub second_ends : HasEnds second middle to
  pub apart : ShareNone first.carrier second.carrier
  pub ends : HasEnds link from to

-- of two vertices that are joined, a Full link on no cell
pub record GivesBase (board : Board) (player : Colour) (a b : Vertex) (link : Link) : Type 0 where
  pub joined : Joined board player a b
  pub kind : link.kind ≡ Full
  pub carrier : link.carrier ≡ 0
  pub ends : HasEnds link a b

-- over a stone or a side of the player, a Full link on both carriers
pub record GivesAndStone (board : Board) (player : Colour) (before : List Link) (left right : ℕ) (link : Link)
    : Type 0 where
  pub middle : Vertex
  pub over : GoesOver before left right middle link
  pub own : IsOwn board player middle
  pub kind : link.kind ≡ Full
  pub carrier : link.carrier ≡ union over.first.carrier over.second.carrier

-- over an empty cell in neither carrier, a Semi link on both carriers and the cell
pub record GivesAndCell (board : Board) (before : List Link) (left right : ℕ) (link : Link) : Type 0 where
  pub cell : ℕ
  pub over : GoesOver before left right (Of cell) link
  pub empty : IsEmpty board cell
  pub outside_first : has over.first.carrier cell ≡ false
  pub outside_second : has over.second.carrier cell ≡ false
  pub kind : link.kind ≡ Semi
  pub carrier : link.carrier ≡ insert (union over.first.carrier over.second.carrier) cell

-- the cells that are in some of the carriers
abbrev pub carriers_of : List Link → ℕ
carriers_of [] = 0
carriers_of (link ∷ links) = union link.carrier (carriers_of links)

-- of 2 to `MOST_PARTS` Semi links of the same ends, of which each cell is outside some carrier, a Full link of these
-- ends on all their carriers
pub record GivesOr (before : List Link) (places : List ℕ) (link : Link) : Type 0 where
  pub links : List Link
  pub there : map (λ (place : ℕ). slice_get before place) places ≡ map (λ (part : Link). Some part) links
  pub several : 2 ≤ length places
  pub few : length places ≤ MOST_PARTS
  pub semi : (part : Link) → Contains links part → part.kind ≡ Semi
  pub same_ends : (part : Link) → Contains links part → HasEnds part link.a link.b
  pub none_in_all : (cell : ℕ) → (part : Link) × (Contains links part × (has part.carrier cell ≡ false))
  pub kind : link.kind ≡ Full
  pub carrier : link.carrier ≡ carriers_of links

-- what a step gives by its rule, before it is asked whether there can be such a link
abbrev pub GivesByRule : Board → Colour → List Link → Step → Link → Type 0
GivesByRule board player before (Base a b) link = GivesBase board player a b link
GivesByRule board player before (AndStone left right) link = GivesAndStone board player before left right link
GivesByRule board player before (AndCell left right) link = GivesAndCell board before left right link
GivesByRule board player before (Or parts) link = GivesOr before parts link

-- the step gives this link after the earlier ones: by its rule, and where there can be such a link
pub record StepGives (board : Board) (player : Colour) (before : List Link) (step : Step) (link : Link) : Type 0 where
  pub rule : GivesByRule board player before step link
  pub link_ok : IsLink board player link

-- after the links that are there already, the steps give links one after the other, and with these they are all the
-- links
abbrev pub AreRightSteps : Board → Colour → List Link → List Step → List Link → Type 0
AreRightSteps board player before [] links = links ≡ before
AreRightSteps board player before (step ∷ steps) links =
    (link : Link) × StepGives board player before step link
    × AreRightSteps board player (before ++ link ∷ []) steps links
