-- Cells and points by their depth from a player's first side, which is the row for Black and the column for White. What
-- is said by depths is said for both players at once.
use Rattle.std.proofs.Common.{◌≡◌, ℕ, suc, ◌+◌, ◌<◌, ◌≤◌, refl, arith, ◌⊎◌, inl, inr, ◌↔◌}
use Rattle.hx_board.specs.declared.colours.Colour.{Colour}
use Rattle.hx_board.specs.declared.colours.Colour.TheVariants.{Black, White}
use Rattle.hx_board.specs.Colours.{other_of}
use Rattle.hx_board.specs.Cells.{Extent, IsExtent, OnBoard, row_of, col_of, index_of, CellsTouch, Left, Right, Above, Below, Above_right}
use Rattle.hx_board.specs.Cells.{Below_left}
use Rattle.hx_board.specs.Graph.{IsFirstLine, IsLastLine}
use Rattle.hx_law.proofs.Points.{Point, same_point, Which, Base, Under, Beside, which, Near, near_by}

-- ---- cells as points

abbrev pub point_of : ℕ → Point
point_of cell = record { row = row_of cell; col = col_of cell }

abbrev pub cell_at : Point → ℕ
cell_at x = index_of x.row x.col

pub cell_at-point_of : (cell : ℕ) → cell_at (point_of cell) ≡ cell
cell_at-point_of cell = omega arith

pub point_of-cell_at : (x : Point) → x.col < 11 → x ≡ point_of (cell_at x)
point_of-cell_at x small = same_point x (point_of (cell_at x)) (omega arith) (omega arith)

pub touching-near : (cell other : ℕ) → CellsTouch cell other → Near (point_of cell) (point_of other)
touching-near cell other (Left row col) = near_by _ _ (omega arith) (omega arith)
touching-near cell other (Right row col) = near_by _ _ (omega arith) (omega arith)
touching-near cell other (Above row col) = near_by _ _ (omega arith) (omega arith)
touching-near cell other (Below row col) = near_by _ _ (omega arith) (omega arith)
touching-near cell other (Above_right row col) = near_by _ _ (omega arith) (omega arith)
touching-near cell other (Below_left row col) = near_by _ _ (omega arith) (omega arith)

by_corners : (cell other : ℕ) (base : Point) → Which base (point_of cell) → Which base (point_of other) → (cell ≡ other)
    ⊎ CellsTouch cell other
by_corners cell other base (Base a b) (Base c d) = inl (omega arith)
by_corners cell other base (Base a b) (Under c d) = inr (Below (omega arith) (omega arith))
by_corners cell other base (Base a b) (Beside c d) = inr (Right (omega arith) (omega arith))
by_corners cell other base (Under a b) (Base c d) = inr (Above (omega arith) (omega arith))
by_corners cell other base (Under a b) (Under c d) = inl (omega arith)
by_corners cell other base (Under a b) (Beside c d) = inr (Above_right (omega arith) (omega arith))
by_corners cell other base (Beside a b) (Base c d) = inr (Left (omega arith) (omega arith))
by_corners cell other base (Beside a b) (Under c d) = inr (Below_left (omega arith) (omega arith))
by_corners cell other base (Beside a b) (Beside c d) = inl (omega arith)

pub near-touching : (cell other : ℕ) → Near (point_of cell) (point_of other) → (cell ≡ other) ⊎ CellsTouch cell other
near-touching cell other near =
    by_corners cell other near.base (which near.base (point_of cell) near.first) (which near.base (point_of other) near.second)

-- ---- depths

abbrev pub depth : Colour → Point → ℕ
depth Black x = x.row
depth White x = x.col

-- how many lines of cells lie between a player's two sides
abbrev pub extent : Colour → Extent → ℕ
extent Black size = size.rows
extent White size = size.cols

-- the point at a depth from a player's first side and at a depth from the opponent's
abbrev pub point_at : Colour → ℕ → ℕ → Point
point_at Black deep across = record { row = deep; col = across }
point_at White deep across = record { row = across; col = deep }

pub depths-point_at : (player : Colour) (deep across : ℕ) → (depth player (point_at player deep across) ≡ deep)
    × (depth (other_of player) (point_at player deep across) ≡ across)
depths-point_at Black deep across = (refl, refl)
depths-point_at White deep across = (refl, refl)

pub sum-depths : (player : Colour) (x : Point) → depth player x + depth (other_of player) x ≡ x.row + x.col
sum-depths Black x = refl
sum-depths White x = omega arith

pub sum-extents : (player : Colour) (size : Extent) → extent player size + extent (other_of player) size ≡ size.rows + size.cols
sum-extents Black size = refl
sum-extents White size = omega arith

pub extent-positive : (player : Colour) (size : Extent) → IsExtent size.rows size.cols → 0 < extent player size
extent-positive Black size is = omega arith
extent-positive White size is = omega arith

pub near-across : (player : Colour) (deep across : ℕ) → Near (point_at player deep (suc across)) (point_at player deep across)
near-across Black deep across = near_by _ _ (omega arith) (omega arith)
near-across White deep across = near_by _ _ (omega arith) (omega arith)

pub on_first_line : (player : Colour) (cell : ℕ) → IsFirstLine player cell ↔ (depth player (point_of cell) ≡ 0)
on_first_line Black cell = ((λ first. first), (λ first. first))
on_first_line White cell = ((λ first. first), (λ first. first))

pub on_last_line : (size : Extent) (player : Colour) (cell : ℕ) → IsLastLine size player cell
    ↔ (depth player (point_of cell) + 1 ≡ extent player size)
on_last_line size Black cell = ((λ last. last), (λ last. last))
on_last_line size White cell = ((λ last. last), (λ last. last))

pub on_board : (size : Extent) (player : Colour) (cell : ℕ) → OnBoard size cell
    ↔ (depth player (point_of cell) < extent player size × depth (other_of player) (point_of cell) < extent (other_of player) size)
on_board size Black cell = ((λ on. (on.row, on.col)), (λ on. record { row = on.0; col = on.1 }))
on_board size White cell = ((λ on. (on.col, on.row)), (λ on. record { row = on.1; col = on.0 }))

pub near-deeper : (player : Colour) (x : Point) (deep : ℕ) → depth player x + 1 ≡ deep
    → Near x (point_at player deep (depth (other_of player) x))
near-deeper Black x deep next = near_by _ _ (omega arith) (omega arith)
near-deeper White x deep next = near_by _ _ (omega arith) (omega arith)

pub near-depth : (player : Colour) (x y : Point) → Near x y → depth player y ≤ depth player x + 1
near-depth Black x y near = omega arith
near-depth White x y near = omega arith

pub col_small : (size : Extent) (player : Colour) (x : Point) → IsExtent size.rows size.cols → depth player x < extent player size
    → depth (other_of player) x < extent (other_of player) size → x.col < 11
col_small size Black x is deep across = omega arith
col_small size White x is deep across = omega arith
