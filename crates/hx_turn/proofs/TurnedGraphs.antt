-- On boards that mirror each other own vertices go to own vertices, what touches to what touches, and so walks to
-- walks.
use Rattle.std.proofs.Common.{◌≡◌, List, [], ◌∷◌, map, refl, sym, ap, subst, inl, inr}
use Rattle.hx_board.specs.declared.colours.Colour.{Colour}
use Rattle.hx_board.specs.declared.vertices.Vertex.{Vertex}
use Rattle.hx_board.specs.declared.vertices.Vertex.TheVariants.{Of, First, Last}
use Rattle.hx_board.specs.Cells.{Extent, IsExtent}
use Rattle.hx_board.specs.Positions.{Board, IsBoard}
use Rattle.hx_board.specs.Graph.{IsVertex, Touches, IsOwn, Walk, Joined}
use Rattle.hx_board.proofs.Joins.{touches-vertex}
use Rattle.hx_turn.specs.Turned.{turned_vertex, IsTurned, KeepsJoined}
use Rattle.hx_turn.proofs.TurnedCells.{on_board-turned, turned-turned, touch-turned, first_line-turned, last_line-turned}
use Rattle.hx_turn.proofs.TurnedBoards.{Mirrors, exchanged, turned-mirrors}

pub touches-turned : (size : Extent) → IsExtent size.rows size.cols → (player : Colour) (v w : Vertex) → Touches size player v w
    → Touches size player (turned_vertex size v) (turned_vertex size w)
touches-turned size extent player (Of cell) (Of other) t =
    (on_board-turned size extent cell t.0, on_board-turned size extent other t.1, touch-turned size extent cell other t.0 t.1 t.2)
touches-turned size extent player (Of cell) First t =
    (on_board-turned size extent cell t.0, last_line-turned size extent player cell t.0 t.1)
touches-turned size extent player (Of cell) Last t =
    (on_board-turned size extent cell t.0, first_line-turned size extent player cell t.0 t.1)
touches-turned size extent player First (Of cell) t =
    (on_board-turned size extent cell t.0, last_line-turned size extent player cell t.0 t.1)
touches-turned size extent player First First t = absurd t
touches-turned size extent player First Last t = absurd t
touches-turned size extent player Last (Of cell) t =
    (on_board-turned size extent cell t.0, first_line-turned size extent player cell t.0 t.1)
touches-turned size extent player Last First t = absurd t
touches-turned size extent player Last Last t = absurd t

pub vertex-turned : (size : Extent) → IsExtent size.rows size.cols → (v : Vertex) → IsVertex size v
    → turned_vertex size (turned_vertex size v) ≡ v
vertex-turned size extent (Of cell) here = ap Of (turned-turned size extent cell here)
vertex-turned size extent First here = refl
vertex-turned size extent Last here = refl

pub is_vertex-turned : (size : Extent) → IsExtent size.rows size.cols → (v : Vertex) → IsVertex size v
    → IsVertex size (turned_vertex size v)
is_vertex-turned size extent (Of cell) here = on_board-turned size extent cell here
is_vertex-turned size extent First here = tt
is_vertex-turned size extent Last here = tt

module _ (size : Extent) (player : Colour) (board turned : Board) (m : Mirrors size board turned) where
  own-turned : (v : Vertex) → IsVertex size v → IsOwn board player v → IsOwn turned player (turned_vertex size v)
  own-turned (Of cell) here own = m.there player cell here own
  own-turned First here own = tt
  own-turned Last here own = tt

  touch : (v w : Vertex) → Touches board.size player v w → Touches turned.size player (turned_vertex size v) (turned_vertex size w)
  touch v w t =
      let P : Extent → Type 0 = λ s. Touches s player v w in
      let Q : Extent → Type 0 = λ s. Touches s player (turned_vertex size v) (turned_vertex size w) in
      subst Q (sym m.turned_size) (touches-turned size m.extent player v w (subst P m.board_size t))

  walk-turned : (inner : List Vertex) (from to : Vertex) → Walk board player from inner to
      → Walk turned player (turned_vertex size from) (map (turned_vertex size) inner) (turned_vertex size to)
  walk-turned [] from to t = touch from to t
  walk-turned (next ∷ rest) from to w =
      let P : Extent → Type 0 = λ s. IsVertex s next in (
        touch from next w.0,
        own-turned next (subst P m.board_size (touches-vertex board.size player from next w.0)) w.1,
        walk-turned rest next to w.2,
      )

  pub joined-turned : (from to : Vertex) → Joined board player from to
      → Joined turned player (turned_vertex size from) (turned_vertex size to)
  joined-turned from to (inl same) = inl (ap (turned_vertex size) same)
  joined-turned from to (inr some) = inr (map (turned_vertex size) some.0, walk-turned some.0 from to some.1)

pub keeps_joined : (board : Board) (player : Colour) (turned : Board) → IsBoard board → IsTurned board turned
    → KeepsJoined board player turned
keeps_joined board player turned is turn from to from_here to_here =
    let m = turned-mirrors board turned is turn in (
      joined-turned board.size player board turned m from to,
      λ joined.
          let back = joined-turned board.size player turned board (exchanged board.size board turned m)
          (turned_vertex board.size from) (turned_vertex board.size to) joined in
          let P : Vertex → Type 0 = λ v. Joined board player v (turned_vertex board.size (turned_vertex board.size to)) in
          let Q : Vertex → Type 0 = λ w. Joined board player from w in
          subst Q (vertex-turned board.size is.0 to to_here) (subst P (vertex-turned board.size is.0 from from_here) back),
    )
