-- What is joined is joined both ways, and over an own vertex: a walk can be reversed, since touching goes both ways,
-- and two walks that meet at an own vertex are one.
use Rattle.std.proofs.Common.{ℕ, List, [], ◌∷◌, ◌++◌, sym, subst, inl, inr}
use Rattle.hx_board.specs.declared.colours.Colour.{Colour}
use Rattle.hx_board.specs.declared.vertices.Vertex.{Vertex}
use Rattle.hx_board.specs.declared.vertices.Vertex.TheVariants.{Of, First, Last}
use Rattle.hx_board.specs.Cells.{Extent, CellsTouch, Left, Right, Above, Below, Above_right, Below_left}
use Rattle.hx_board.specs.Positions.{Board}
use Rattle.hx_board.specs.Graph.{IsVertex, IsOwn, Touches, Walk, Joined}

pub cells_touch-sym : (cell other : ℕ) → CellsTouch cell other → CellsTouch other cell
cells_touch-sym cell other (Left row col) = Right (sym row) (sym col)
cells_touch-sym cell other (Right row col) = Left (sym row) (sym col)
cells_touch-sym cell other (Above row col) = Below (sym row) (sym col)
cells_touch-sym cell other (Below row col) = Above (sym row) (sym col)
cells_touch-sym cell other (Above_right row col) = Below_left (sym row) (sym col)
cells_touch-sym cell other (Below_left row col) = Above_right (sym row) (sym col)

pub touches-sym : (size : Extent) (player : Colour) (v w : Vertex) → Touches size player v w → Touches size player w v
touches-sym size player (Of n) (Of m) t = (t.1, t.0, cells_touch-sym n m t.2)
touches-sym size player (Of n) First t = t
touches-sym size player (Of n) Last t = t
touches-sym size player First (Of m) t = t
touches-sym size player First First t = t
touches-sym size player First Last t = t
touches-sym size player Last (Of m) t = t
touches-sym size player Last First t = t
touches-sym size player Last Last t = t

pub touches-vertex : (size : Extent) (player : Colour) (v w : Vertex) → Touches size player v w → IsVertex size w
touches-vertex size player (Of n) (Of m) t = t.1
touches-vertex size player (Of n) First t = tt
touches-vertex size player (Of n) Last t = tt
touches-vertex size player First (Of m) t = t.0
touches-vertex size player First First t = tt
touches-vertex size player First Last t = tt
touches-vertex size player Last (Of m) t = t.0
touches-vertex size player Last First t = tt
touches-vertex size player Last Last t = tt

module _ (board : Board) (player : Colour) where
  pub walk-append : (inner rest : List Vertex) (from mid to : Vertex) → Walk board player from inner mid
      → IsOwn board player mid → Walk board player mid rest to
      → Walk board player from (inner ++ mid ∷ rest) to
  walk-append [] rest from mid to w own r = (w, own, r)
  walk-append (v ∷ vs) rest from mid to w own r = (w.0, w.1, walk-append vs rest v mid to w.2 own r)

  pub walk-reverse : (inner : List Vertex) (from to : Vertex) → Walk board player from inner to
      → (back : List Vertex) × Walk board player to back from
  walk-reverse [] from to w = ([], touches-sym board.size player from to w)
  walk-reverse (v ∷ vs) from to w =
      let r : (back : List Vertex) × Walk board player to back v = walk-reverse vs v to w.2 in
      (r.0 ++ v ∷ [], walk-append r.0 [] to v from r.1 w.1 (touches-sym board.size player from v w.0))

  pub joined-sym : (v w : Vertex) → Joined board player v w → Joined board player w v
  joined-sym v w (inl e) = inl (sym e)
  joined-sym v w (inr a) = inr (walk-reverse a.0 v w a.1)

  pub joined-over_own : (v u w : Vertex) → IsOwn board player u → Joined board player v u → Joined board player u w
      → Joined board player v w
  joined-over_own v u w own (inl e) b = let P : Vertex → Type 0 = λ x. Joined board player x w in subst P (sym e) b
  joined-over_own v u w own (inr a) (inl e) = let P : Vertex → Type 0 = λ x. Joined board player v x in subst P e (inr a)
  joined-over_own v u w own (inr a) (inr b) = inr (a.0 ++ u ∷ b.0, walk-append a.0 b.0 v u w a.1 own b.1)

  -- a walk from the first vertex to the second goes on
  pub joined-touches : (v w : Vertex) → Touches board.size player v w → Joined board player v w
  joined-touches v w t = inr ([], t)
