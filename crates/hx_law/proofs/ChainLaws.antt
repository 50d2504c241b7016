-- Not both players have a chain, and on a full board one has. With the board in the corner of a triangle, a player with
-- a chain connects the line behind the last side to all three sides of the triangle: to the player's first side by the
-- chain, to the two others by the line itself. Only one player can. On a full board the way goes back: what a player
-- connects to all three sides has a path from the first side to the line behind the last, and that is a chain.
use Rattle.std.proofs.Common.{◌≡◌, ℕ, zero, suc, ◌+◌, ◌-◌, ◌<◌, ◌≤◌, List, [], ◌∷◌, true, sym, ap, ◌∙◌, subst, arith, ◌⊎◌, inl, inr, ⊎_elim}
use Rattle.std.proofs.lemmas.Bool.{cases_lt}
use Rattle.hx_board.specs.declared.colours.Colour.{Colour}
use Rattle.hx_board.specs.declared.colours.Colour.TheVariants.{Black, White}
use Rattle.hx_board.specs.declared.vertices.Vertex.{Vertex}
use Rattle.hx_board.specs.declared.vertices.Vertex.TheVariants.{Of, First, Last}
use Rattle.hx_board.specs.Sets.{has}
use Rattle.hx_board.specs.Colours.{other_of}
use Rattle.hx_board.specs.Cells.{Extent, IsExtent, OnBoard, row_of, col_of}
use Rattle.hx_board.specs.Positions.{Board, IsBoard, IsFull, stones_of}
use Rattle.hx_board.specs.Graph.{IsLastLine, IsOwn, Touches, Walk, HasChain}
use Rattle.hx_law.specs.Laws.{NeverBoth, AlwaysOne}
use Rattle.hx_board.proofs.ColourLaws.{one_or_other, other-differs}
use Rattle.hx_law.proofs.Points.{Point, Near, Connected, Stay, Step, connected-first, connected-last, connected-trans, connected-sym}
use Rattle.hx_law.proofs.Depths.{point_of, cell_at, point_of-cell_at, touching-near, near-touching, depth, extent, point_at}
use Rattle.hx_law.proofs.Depths.{depths-point_at, sum-depths, sum-extents, extent-positive, near-across, near-deeper, near-depth}
use Rattle.hx_law.proofs.Depths.{on_first_line, on_last_line, on_board, col_small}
use Rattle.hx_law.proofs.Triangle.{Side, First_of, Long, IsAlong, IsOf, Reaches, Meets, last_colour, last-meets, meets-last}
use Rattle.hx_law.proofs.BoardInTriangle.{owner, owner-behind, owner-of_stone, stone_of-owner}

module _ (board : Board) (is : IsBoard board) (player : Colour) where
  abbrev size : Extent
  size = board.size

  -- the side of the triangle
  abbrev side : ℕ
  side = size.rows + size.cols

  abbrev IsOurs : Point → Type 0
  IsOurs = IsOf (owner board) player side

  -- ---- a chain connects the line behind the last side to all three sides

  -- the line behind the player's last side
  abbrev behind : ℕ → Point
  behind across = point_at player (extent player size) across

  behind_ours : (across : ℕ) → across < extent (other_of player) size → IsOurs (behind across)
  behind_ours across less =
      let depths = depths-point_at player (extent player size) across in
      let sum = sum-depths player (behind across) in
      let whole = sum-extents player size in
      let inside : (behind across).row + (behind across).col < size.rows + size.cols = omega arith in
      record { inside = inside; same = owner-behind board player (behind across) inside (omega arith) }

  line : (across : ℕ) → across < extent (other_of player) size → Connected IsOurs (behind across) (behind 0)
  line zero less = Stay (behind 0) (behind_ours 0 less)
  line (suc across) less =
      Step (behind (suc across)) (behind across) (behind 0) (behind_ours (suc across) less) (near-across player _ across)
      (line across (omega arith))

  stone_ours : (cell : ℕ) → OnBoard size cell → has (stones_of board player) cell ≡ true → IsOurs (point_of cell)
  stone_ours cell on stone =
      let row : row_of cell < size.rows = on.row in
      let col : col_of cell < size.cols = on.col in
      record { inside = omega arith; same = owner-of_stone board player cell is.1 on stone }

  -- a path to the line from a point, or from some point along the first side
  abbrev FromFirst : Type 0
  FromFirst = (x : Point) × ((depth player x ≡ 0) × Connected IsOurs x (behind 0))

  abbrev FromVertex : Vertex → Type 0
  FromVertex (Of cell) = FromFirst ⊎ Connected IsOurs (point_of cell) (behind 0)
  FromVertex First = FromFirst
  FromVertex Last = Unit {0}

  from_last : (cell : ℕ) → OnBoard size cell → IsLastLine size player cell → has (stones_of board player) cell ≡ true
      → Connected IsOurs (point_of cell) (behind 0)
  from_last cell on last stone =
      let across : ℕ = depth (other_of player) (point_of cell) in
      Step (point_of cell) (behind across) (behind 0) (stone_ours cell on stone)
      (near-deeper player (point_of cell) (extent player size) ((on_last_line size player cell).0 last))
      (line across ((on_board size player cell).0 on).1)

  step_from : (from to : Vertex) → IsOwn board player from → Touches size player from to → FromVertex to → FromVertex from
  step_from (Of cell) (Of other) own touch (inl first) = inl first
  step_from (Of cell) (Of other) own touch (inr path) =
      inr (Step _ (point_of other) _ (stone_ours cell touch.0 own) (touching-near cell other touch.2) path)
  step_from (Of cell) First own touch first = inl first
  step_from (Of cell) Last own touch _ = inr (from_last cell touch.0 touch.1 own)
  step_from First (Of cell) own touch (inl first) = first
  step_from First (Of cell) own touch (inr path) = (point_of cell, ((on_first_line player cell).0 touch.1, path))
  step_from First First own touch _ = absurd touch
  step_from First Last own touch _ = absurd touch
  step_from Last to own touch _ = tt

  walk_from : (from : Vertex) (inner : List Vertex) → IsOwn board player from → Walk board player from inner Last → FromVertex from
  walk_from from [] own walk = step_from from Last own walk tt
  walk_from from (next ∷ rest) own walk = step_from from next own walk.0 (walk_from next rest walk.1 walk.2)

  from_first : HasChain board player → FromFirst
  from_first (inl same) = cc
  from_first (inr walk) = walk_from First walk.0 tt walk.1

  line_reaches : (edge : Side) → FromFirst → Reaches (owner board) player side (behind 0) edge
  line_reaches (First_of who) first = ⊎_elim
      (λ own. record { end = first.0; along = rw own first.1.0; path = connected-sym IsOurs first.0 (behind 0) first.1.1 })
      (λ others. record {
        end = behind 0;
        along = rw others (depths-point_at player (extent player size) 0).1;
        path =
            line 0 (extent-positive (other_of player) size is.0);
      })
      (one_or_other who player)
  line_reaches Long first =
      let last : ℕ = extent (other_of player) size - 1 in
      let some : 0 < extent (other_of player) size = extent-positive (other_of player) size is.0 in
      let depths = depths-point_at player (extent player size) last in
      let sum = sum-depths player (behind last) in
      let whole = sum-extents player size in
      record { end = behind last; along = omega arith; path = connected-sym IsOurs (behind last) (behind 0) (line last (omega arith)) }

  chain-meets : HasChain board player → Meets (owner board) player side
  chain-meets chain = record { centre = behind 0; reaches = λ edge. line_reaches edge (from_first chain) }

  -- ---- on a full board a path from the first side to the line behind the last is a chain

  -- a point as a cell of the board that holds the player's stone
  record Stone (x : Point) : Type 0 where
    cell : ℕ
    same : x ≡ point_of cell
    on : OnBoard size cell
    own : has (stones_of board player) cell ≡ true

  across_less : (x : Point) → IsOurs x → depth (other_of player) x < extent (other_of player) size
  across_less x ours = ⊎_elim
      (λ less. less)
      (λ beyond. absurd (other-differs player (sym ours.same ∙ owner-behind board (other_of player) x ours.inside beyond)))
      (cases_lt (depth (other_of player) x) (extent (other_of player) size))

  -- a point of the player's along the long side is not before the last side
  long_behind : (x : Point) → IsOurs x → IsAlong Long side x → extent player size ≤ depth player x
  long_behind x ours long = let across = across_less x ours in let sum = sum-depths player x in let whole = sum-extents player size in
      omega arith

  abbrev ToLast : ℕ → Type 0
  ToLast cell = (inner : List Vertex) × Walk board player (Of cell) inner Last

  module _ (full : IsFull board) where
    stone : (x : Point) → IsOurs x → depth player x < extent player size → Stone x
    stone x ours before =
        let same : x ≡ point_of (cell_at x) = point_of-cell_at x (col_small size player x is.0 before (across_less x ours)) in
        let on : OnBoard size (cell_at x) = (on_board size player (cell_at x)).1 (rw (← same) (before, across_less x ours)) in
        record {
          cell = cell_at x;
          same = same;
          on = on;
          own =
              stone_of-owner board player (cell_at x) full on (ap (owner board) (sym same) ∙ ours.same);
        }

    step_to : (x u : Point) (s : Stone x) (t : Stone u) → Near x u → ToLast t.cell → ToLast s.cell
    step_to x u s t near walk = ⊎_elim
        (λ same. rw same walk)
        (λ touch. (Of t.cell ∷ walk.0, ((s.on, t.on, touch), t.own, walk.1)))
        (near-touching s.cell t.cell (rw (← s.same, ← t.same) near))

    stone-before : (x : Point) → Stone x → depth player x < extent player size
    stone-before x s = rw s.same ((on_board size player s.cell).0 s.on).0

    stone-last : (x u : Point) (s : Stone x) → Near x u → extent player size ≤ depth player u → ToLast s.cell
    stone-last x u s near behind =
        let next = near-depth player x u near in
        let before = stone-before x s in
        let last : depth player x + 1 ≡ extent player size = omega arith in
        ([], (s.on, (on_last_line size player s.cell).1 (rw (← s.same) last)))

    walk_to_last : (x y : Point) → Connected IsOurs x y → (s : Stone x) → extent player size ≤ depth player y → ToLast s.cell
    walk_to_last x y (Stay _ _) s behind = let before = stone-before x s in absurd (omega arith)
    walk_to_last x y (Step _ u _ ours near rest) s behind = ⊎_elim
        (λ before. let t : Stone u = stone u (connected-first IsOurs u y rest) before in
        step_to x u s t near (walk_to_last u y rest t behind))
        (stone-last x u s near)
        (cases_lt (depth player u) (extent player size))

    meets-chain : Meets (owner board) player side → HasChain board player
    meets-chain m =
        let first : Reaches (owner board) player side m.centre (First_of player) = m.reaches (First_of player) in
        let long : Reaches (owner board) player side m.centre Long = m.reaches Long in
        let path : Connected IsOurs first.end long.end = connected-trans IsOurs _ _ _ (connected-sym IsOurs _ _ first.path) long.path in
        let start : depth player first.end ≡ 0 = first.along in
        let some : 0 < extent player size = extent-positive player size is.0 in
        let s : Stone first.end = stone first.end (connected-first IsOurs _ _ path) (omega arith) in
        let walk : ToLast s.cell =
        walk_to_last first.end long.end path s (long_behind long.end (connected-last IsOurs _ _ path) long.along) in
        inr (Of s.cell ∷ walk.0, ((s.on, (on_first_line player s.cell).1 (rw (← s.same) start)), s.own, walk.1))

-- ---- the two laws

-- the colour that is left when the triangle was reduced to one point
winner : Board → Colour
winner board = last_colour (board.size.rows + board.size.cols - 1) (owner board)

side_of_board : (size : Extent) → IsExtent size.rows size.cols → size.rows + size.cols ≡ suc (size.rows + size.cols - 1)
side_of_board size is = omega arith

chain-winner : (board : Board) (player : Colour) → IsBoard board → HasChain board player → player ≡ winner board
unfolding winner
chain-winner board player is chain =
    meets-last _ (owner board) player (rw (side_of_board board.size is.0) at (chain-meets board is player chain))

winner-chain : (board : Board) → IsBoard board → IsFull board → HasChain board (winner board)
unfolding winner
winner-chain board is full =
    let P : ℕ → Type 0 = λ side. Meets (owner board) (winner board) side in
    meets-chain board is (winner board) full (subst P (sym (side_of_board board.size is.0)) (last-meets _ (owner board)))

pub never_both : (board : Board) → IsBoard board → NeverBoth board
never_both board is both = let e = chain-winner board Black is both.0 in let f = chain-winner board White is both.1 in cc

pub always_one : (board : Board) → IsBoard board → IsFull board → AlwaysOne board
always_one board is full = one (winner board) (winner-chain board is full)
  where
    one : (player : Colour) → HasChain board player → AlwaysOne board
    one Black chain = inl chain
    one White chain = inr chain
