-- The points of a triangle, by row and column: those whose row and column together make less than its side. Each point
-- with the one under it and the one beside it makes a small triangle. Points that are corners of one small triangle are
-- near: they are the same or touch.
use Rattle.std.proofs.Common.{◌≡◌, ◌≢◌, ℕ, ◌+◌, ◌≤◌, min, ap, arith, ⊎_elim}
use Rattle.std.proofs.lemmas.Bool.{cases_lt}

pub record Point : Type 0 where
  pub row : ℕ
  pub col : ℕ

abbrev pub under : Point → Point
under t = record { row = t.row + 1; col = t.col }

abbrev pub beside : Point → Point
beside t = record { row = t.row; col = t.col + 1 }

pub same_point : (x y : Point) → x.row ≡ y.row → x.col ≡ y.col → x ≡ y
same_point x y row col = λ i. record { row = row i; col = col i }

-- x is one of the three corners of the small triangle at t
pub record Corner (t x : Point) : Type 0 where
  pub from_row : t.row ≤ x.row
  pub from_col : t.col ≤ x.col
  pub within : x.row + x.col ≤ t.row + t.col + 1

pub corner : (t x : Point) → t.row ≤ x.row → t.col ≤ x.col → x.row + x.col ≤ t.row + t.col + 1 → Corner t x
corner t x row col within = record { from_row = row; from_col = col; within = within }

pub differ : (x y : Point) → ¬ ((x.row ≡ y.row) × (x.col ≡ y.col)) → x ≢ y
differ x y other same = other (ap (λ (z : Point). z.row) same, ap (λ (z : Point). z.col) same)

pub corner_base : (t : Point) → Corner t t
corner_base t = record { from_row = omega arith; from_col = omega arith; within = omega arith }

pub corner_under : (t : Point) → Corner t (under t)
corner_under t = record { from_row = omega arith; from_col = omega arith; within = omega arith }

pub corner_beside : (t : Point) → Corner t (beside t)
corner_beside t = record { from_row = omega arith; from_col = omega arith; within = omega arith }

-- which corner it is
pub data Which (t x : Point) : Type 0 where
  Base : x.row ≡ t.row → x.col ≡ t.col → Which t x
  Under : x.row ≡ t.row + 1 → x.col ≡ t.col → Which t x
  Beside : x.row ≡ t.row → x.col ≡ t.col + 1 → Which t x

pub which : (t x : Point) → Corner t x → Which t x
which t x c =
    ⊎_elim
    (λ lower. Under (omega arith) (omega arith))
    (λ same_row. ⊎_elim (λ further. Beside (omega arith) (omega arith)) (λ same_col. Base (omega arith) (omega arith))
    (cases_lt t.col x.col))
    (cases_lt t.row x.row)

-- two points that are corners of one small triangle
pub record Near (x y : Point) : Type 0 where
  pub base : Point
  pub first : Corner base x
  pub second : Corner base y

pub corners-near : (t x y : Point) → Corner t x → Corner t y → Near x y
corners-near t x y c d = record { base = t; first = c; second = d }

pub near-sym : (x y : Point) → Near x y → Near y x
near-sym x y n = record { base = n.base; first = n.second; second = n.first }

pub near_by : (x y : Point) → x.row + x.col ≤ min x.row y.row + min x.col y.col + 1 → y.row + y.col ≤ min x.row y.row + min x.col y.col + 1
    → Near x y
near_by x y c d = record {
  base = record { row = min x.row y.row; col = min x.col y.col };
  first = record { from_row = omega arith; from_col = omega arith; within = c };
  second = record { from_row = omega arith; from_col = omega arith; within = d };
}

-- two small triangles that share a corner are near, taken as points
pub sharing-near : (t s x : Point) → Corner t x → Corner s x → Near t s
sharing-near t s x c d = near_by t s (omega arith) (omega arith)

-- a path of near points, on each of which On holds
pub data Connected (On : Point → Type 0) : Point → Point → Type 0 where
  Stay : (x : Point) → On x → Connected On x x
  Step : (x y z : Point) → On x → Near x y → Connected On y z → Connected On x z

module _ (On : Point → Type 0) where
  pub connected-first : (x y : Point) → Connected On x y → On x
  connected-first x y (Stay _ on) = on
  connected-first x z (Step _ y _ on near rest) = on

  pub connected-last : (x y : Point) → Connected On x y → On y
  connected-last x y (Stay _ on) = on
  connected-last x z (Step _ y _ on near rest) = connected-last y z rest

  pub connected-trans : (x y z : Point) → Connected On x y → Connected On y z → Connected On x z
  connected-trans x y z (Stay _ on) more = more
  connected-trans x y z (Step _ w _ on near rest) more = Step x w z on near (connected-trans w y z rest more)

  pub connected-sym : (x y : Point) → Connected On x y → Connected On y x
  connected-sym x y (Stay _ on) = Stay x on
  connected-sym x z (Step _ y _ on near rest) =
      connected-trans z y x (connected-sym y z rest) (Step y x x (connected-first y z rest) (near-sym x y near) (Stay x on))
