-- In a triangle of two colours exactly one colour has a point that it connects to all three sides. Give each small
-- triangle the colour that two of its corners have: these are the points of a triangle with one row less. A colour
-- meets all sides there if and only if it does here, since a path goes over from one to the other. At the end one point
-- is left.
use Rattle.std.proofs.Common.{◌≡◌, ◌≢◌, ℕ, zero, suc, ◌+◌, ◌<◌, ◌≤◌, max, refl, sym, ap, ◌∙◌, arith, ◌⊎◌, inl, inr, ⊎_elim}
use Rattle.std.proofs.lemmas.Bool.{cases_lt}
use Rattle.std.proofs.Math.Decide.{ℕ_discrete}
use Rattle.std.proofs.Math.Logic.{⊎_swap}
use Rattle.hx_board.specs.declared.colours.Colour.{Colour}
use Rattle.hx_board.specs.declared.colours.Colour.TheVariants.{Black, White}
use Rattle.hx_law.proofs.Depths.{depth}
use Rattle.hx_law.proofs.Points.{Point, under, beside, same_point, Corner, corner, differ, corner_base, corner_under, corner_beside, Which}
use Rattle.hx_law.proofs.Points.{Base, Under, Beside, which, Near, corners-near, sharing-near, Connected, Stay, Step, connected-first}

-- the colour that two of the three have
abbrev majority : Colour → Colour → Colour → Colour
majority Black Black c = Black
majority Black White c = c
majority White Black c = c
majority White White c = White

-- of any two of the three, one has it
one_of_two : (a b c : Colour) → ((a ≡ majority a b c) ⊎ (b ≡ majority a b c)) × ((a ≡ majority a b c) ⊎ (c ≡ majority a b c))
    × ((b ≡ majority a b c) ⊎ (c ≡ majority a b c))
one_of_two Black Black c = (inl refl, inl refl, inl refl)
one_of_two Black White Black = (inl refl, inl refl, inr refl)
one_of_two Black White White = (inr refl, inr refl, inl refl)
one_of_two White Black Black = (inr refl, inr refl, inl refl)
one_of_two White Black White = (inl refl, inl refl, inr refl)
one_of_two White White c = (inl refl, inl refl, inl refl)

module _ (colour : Point → Colour) where
  -- the colour of the small triangle at a point
  abbrev pub reduced : Point → Colour
  reduced t = majority (colour t) (colour (under t)) (colour (beside t))

  corners_of_two : (t x y : Point) → Which t x → Which t y → (x ≡ y) ⊎ ((colour x ≡ reduced t) ⊎ (colour y ≡ reduced t))
  corners_of_two t x y (Base a b) (Base c d) = inl (same_point x y (omega arith) (omega arith))
  corners_of_two t x y (Base a b) (Under c d) = inr (rw (same_point x t a b, same_point y (under t) c d) (one_of_two _ _ _).0)
  corners_of_two t x y (Base a b) (Beside c d) = inr (rw (same_point x t a b, same_point y (beside t) c d) (one_of_two _ _ _).1)
  corners_of_two t x y (Under a b) (Base c d) = inr (rw (same_point x (under t) a b, same_point y t c d) (⊎_swap (one_of_two _ _ _).0))
  corners_of_two t x y (Under a b) (Under c d) = inl (same_point x y (omega arith) (omega arith))
  corners_of_two t x y (Under a b) (Beside c d) = inr (rw (same_point x (under t) a b, same_point y (beside t) c d) (one_of_two _ _ _).2)
  corners_of_two t x y (Beside a b) (Base c d) = inr (rw (same_point x (beside t) a b, same_point y t c d) (⊎_swap (one_of_two _ _ _).1))
  corners_of_two t x y (Beside a b) (Under c d) =
      inr (rw (same_point x (beside t) a b, same_point y (under t) c d) (⊎_swap (one_of_two _ _ _).2))
  corners_of_two t x y (Beside a b) (Beside c d) = inl (same_point x y (omega arith) (omega arith))

  -- of any two different corners of a small triangle, one has its colour
  corner_of_two : (t x y : Point) → Corner t x → Corner t y → (x ≡ y) ⊎ ((colour x ≡ reduced t) ⊎ (colour y ≡ reduced t))
  corner_of_two t x y c d = corners_of_two t x y (which t x c) (which t y d)

-- the sides of a triangle: the two players' first sides, and the long one
pub data Side : Type 0 where
  First_of : Colour → Side
  Long : Side

abbrev pub IsAlong : Side → ℕ → Point → Type 0
IsAlong (First_of player) side x = depth player x ≡ 0
IsAlong Long side x = x.row + x.col + 1 ≡ side

-- a point of the triangle with this side and of the player's colour
pub record IsOf (colour : Point → Colour) (player : Colour) (side : ℕ) (x : Point) : Type 0 where
  pub inside : x.row + x.col < side
  pub same : colour x ≡ player

-- the player connects a point to a side of the triangle
pub record Reaches (colour : Point → Colour) (player : Colour) (side : ℕ) (x : Point) (edge : Side) : Type 0 where
  pub end : Point
  pub along : IsAlong edge side end
  pub path : Connected (IsOf colour player side) x end

-- the player connects some point to all three sides
pub record Meets (colour : Point → Colour) (player : Colour) (side : ℕ) : Type 0 where
  pub centre : Point
  pub reaches : (edge : Side) → Reaches colour player side centre edge

module _ (colour : Point → Colour) where
  abbrev small : Point → Colour
  small = reduced colour

  -- ---- from the small triangles to the points

  -- a corner of a small triangle that has its colour
  record Chosen (t : Point) : Type 0 where
    point : Point
    corner : Corner t point
    same : colour point ≡ small t

  choose : (t x y : Point) → Corner t x → Corner t y → x ≢ y → (colour x ≡ small t) ⊎ (colour y ≡ small t)
  choose t x y c d differ = ⊎_elim (λ same. absurd (differ same)) (λ one. one) (corner_of_two colour t x y c d)

  choose_with : (P : Point → Type 0) (t x y : Point) → Corner t x → Corner t y → x ≢ y → P x → P y → (z : Chosen t) × P z.point
  choose_with P t x y c d differ p q = ⊎_elim
      (λ same. (record { point = x; corner = c; same = same }, p))
      (λ same. (record { point = y; corner = d; same = same }, q))
      (choose t x y c d differ)

  -- two corners of a small triangle along a side are along that side
  choose_along : (edge : Side) (side : ℕ) (t : Point) → IsAlong edge side t → (x : Chosen t) × IsAlong edge (suc side) x.point
  choose_along (First_of Black) side t along =
      choose_with _ t t (beside t) (corner_base t) (corner_beside t) (differ _ _ (λ e. omega arith)) along along
  choose_along (First_of White) side t along =
      choose_with _ t t (under t) (corner_base t) (corner_under t) (differ _ _ (λ e. omega arith)) along along
  choose_along Long side t along =
      choose_with _ t (under t) (beside t) (corner_under t) (corner_beside t) (differ _ _ (λ e. omega arith)) (omega arith) (omega arith)

  -- near corners of two small triangles, each with its triangle's colour
  record Bridge (t s : Point) : Type 0 where
    from : Chosen t
    to : Chosen s
    near : Near from.point to.point

  module _ (t s : Point) (same : small t ≡ small s) where
    -- they share a corner x, and each has one more, y and z, which are near
    bridge_by : (x y z : Point) → Corner t x → Corner s x → Corner t y → Corner s z → x ≢ y → x ≢ z → Near y z → Bridge t s
    bridge_by x y z tx sx ty sz xy xz near = by (choose t x y tx ty xy) (choose s x z sx sz xz)
      where
        by : (colour x ≡ small t) ⊎ (colour y ≡ small t) → (colour x ≡ small s) ⊎ (colour z ≡ small s) → Bridge t s
        by (inl e) _ = record {
          from = record { point = x; corner = tx; same = e };
          to = record { point = x; corner = sx; same = e ∙ same };
          near = corners-near t x x tx tx;
        }
        by (inr e) (inl f) = record {
          from = record { point = x; corner = tx; same = f ∙ sym same };
          to =
              record { point = x; corner = sx; same = f };
          near = corners-near t x x tx tx;
        }
        by (inr e) (inr f) = record {
          from = record { point = y; corner = ty; same = e };
          to = record { point = z; corner = sz; same = f };
          near = near;
        }

    -- the farthest row and column of the two
    shared : Point
    shared = record { row = max t.row s.row; col = max t.col s.col }

    bridge_if : Near t s → Dec (t.row ≡ s.row) → Dec (t.col ≡ s.col) → Bridge t s
    unfolding shared
    bridge_if near (yes row) col =
        bridge_by shared (under t) (under s) (search (arith, corner)) (search (arith, corner)) (corner_under t) (corner_under s)
        (differ _ _ (λ e. omega arith)) (differ _ _ (λ e. omega arith))
        (corners-near (under near.base) _ _ (search (arith, corner)) (search (arith, corner)))
    bridge_if near (no rows) (yes col) =
        bridge_by shared (beside t) (beside s) (search (arith, corner)) (search (arith, corner)) (corner_beside t) (corner_beside s)
        (differ _ _ (λ e. omega arith)) (differ _ _ (λ e. omega arith))
        (corners-near (beside near.base) _ _ (search (arith, corner)) (search (arith, corner)))
    bridge_if near (no rows) (no cols) =
        bridge_by shared t s (search (arith, corner)) (search (arith, corner)) (corner_base t) (corner_base s)
        (differ _ _ (λ e. omega arith)) (differ _ _ (λ e. omega arith)) near

    bridge : Near t s → Bridge t s
    bridge near = bridge_if near (ℕ_discrete t.row s.row) (ℕ_discrete t.col s.col)

  module _ (player : Colour) (side : ℕ) where
    abbrev IsPoint : Point → Type 0
    IsPoint = IsOf colour player (suc side)

    abbrev IsSmall : Point → Type 0
    IsSmall = IsOf small player side

    chosen_is : (t : Point) → IsSmall t → (x : Chosen t) → IsPoint x.point
    chosen_is t is x = let inside : x.point.row + x.point.col ≤ t.row + t.col + 1 = x.corner.within in
        record { inside = omega arith; same = x.same ∙ is.same }

    -- a path of small triangles gives a path between any chosen corners
    raise_path : (t s : Point) → Connected IsSmall t s → (x : Chosen t) (y : Chosen s) → Connected IsPoint x.point y.point
    raise_path t s (Stay _ is) x y =
        Step x.point y.point y.point (chosen_is t is x) (corners-near t x.point y.point x.corner y.corner) (Stay y.point (chosen_is t is y))
    raise_path t s (Step _ u _ is near rest) x y =
        let next : IsSmall u = connected-first IsSmall u s rest in
        let b : Bridge t u = bridge t u (is.same ∙ sym next.same) near in
        Step x.point b.from.point y.point (chosen_is t is x) (corners-near t x.point b.from.point x.corner b.from.corner)
        (Step b.from.point b.to.point y.point (chosen_is t is b.from) b.near (raise_path u s rest b.to y))

    raise : Meets small player side → Meets colour player (suc side)
    raise m =
        let centre : Chosen m.centre = (choose_along Long (m.centre.row + m.centre.col + 1) m.centre refl).0 in
        record {
          centre = centre.point;
          reaches = λ edge.
              let r : Reaches small player side m.centre edge = m.reaches edge in
              let end : (x : Chosen r.end) × IsAlong edge (suc side) x.point = choose_along edge side r.end r.along in
              record { end = end.0.point; along = end.1; path = raise_path m.centre r.end r.path centre end.0 };
        }

    -- ---- from the points to the small triangles

    -- two different corners of the colour give it to their small triangle
    decide : (t x y : Point) → Corner t x → Corner t y → IsPoint x → IsPoint y → (x ≡ y) ⊎ IsSmall t
    decide t x y c d px py = ⊎_elim
        (λ inside. ⊎_elim inl (λ one. inr (record { inside = inside; same = ⊎_elim (λ e. sym e ∙ px.same) (λ e. sym e ∙ py.same) one }))
        (corner_of_two colour t x y c d))
        (λ outside. inl (same_point x y (omega arith) (omega arith)))
        (cases_lt (t.row + t.col) side)

    -- a small triangle of the colour that has the point as a corner
    record Around (x : Point) : Type 0 where
      triangle : Point
      corner : Corner triangle x
      is : IsSmall triangle

    -- the first step of a path either stays or goes along such a small triangle
    first_step : (x u y : Point) → IsPoint x → (near : Near x u) → Connected IsPoint u y → (x ≡ u) ⊎ IsSmall near.base
    first_step x u y px near rest = decide near.base x u near.first near.second px (connected-first IsPoint u y rest)

    -- a path of points gives a path of small triangles
    lower_path : (x y : Point) → Connected IsPoint x y → (t : Around x) → (s : Around y) × Connected IsSmall t.triangle s.triangle
    lower_path x y (Stay _ _) t = (t, Stay t.triangle t.is)
    lower_path x y (Step _ u _ px near rest) t = ⊎_elim
        (λ same. lower_path u y rest (record { triangle = t.triangle; corner = rw (← same) t.corner; is = t.is }))
        (λ next.
        let l = lower_path u y rest (record { triangle = near.base; corner = near.second; is = next }) in
        (l.0, Step t.triangle near.base l.0.triangle t.is (sharing-near t.triangle near.base x t.corner near.first) l.1))
        (first_step x u y px near rest)

    -- such a path begins somewhere, unless it stays in one point
    start_of : (x y : Point) → Connected IsPoint x y → (x ≡ y) ⊎ Around x
    start_of x y (Stay _ _) = inl refl
    start_of x y (Step _ u _ px near rest) = ⊎_elim
        (λ same. rw same (start_of u y rest))
        (λ next. inr (record { triangle = near.base; corner = near.first; is = next }))
        (first_step x u y px near rest)

    along_or_start : (x : Point) (edge : Side) → Reaches colour player (suc side) x edge → IsAlong edge (suc side) x ⊎ Around x
    along_or_start x edge r = ⊎_elim (λ same. inl (rw same r.along)) inr (start_of x r.end r.path)

    -- only in a triangle of one point a point is along all three sides
    start : (x : Point) → 0 < side → IsAlong (First_of Black) (suc side) x ⊎ Around x → IsAlong (First_of White) (suc side) x ⊎ Around x
        → IsAlong Long (suc side) x ⊎ Around x → Around x
    start x some (inr t) _ _ = t
    start x some (inl black) (inr t) _ = t
    start x some (inl black) (inl white) (inr t) = t
    start x some (inl black) (inl white) (inl long) = absurd (omega arith)

    along_lowered : (edge : Side) (t x : Point) → IsAlong edge (suc side) x → Corner t x → IsSmall t → IsAlong edge side t
    along_lowered (First_of Black) t x along c is = omega arith
    along_lowered (First_of White) t x along c is = omega arith
    along_lowered Long t x along c is = omega arith

    lower : 0 < side → Meets colour player (suc side) → Meets small player side
    lower some m =
        let along_or = λ (edge : Side). along_or_start m.centre edge (m.reaches edge) in
        let centre : Around m.centre = start m.centre some (along_or (First_of Black)) (along_or (First_of White)) (along_or Long) in
        record {
          centre = centre.triangle;
          reaches = λ edge.
              let r : Reaches colour player (suc side) m.centre edge = m.reaches edge in
              let end : (s : Around r.end) × Connected IsSmall centre.triangle s.triangle = lower_path m.centre r.end r.path centre in
              record { end = end.0.triangle; along = along_lowered edge end.0.triangle r.end r.along end.0.corner end.0.is; path = end.1 };
        }

-- the point that is left at the end
abbrev origin : Point
origin = record { row = 0; col = 0 }

pub last_colour : ℕ → (Point → Colour) → Colour
last_colour zero colour = colour origin
last_colour (suc n) colour = last_colour n (reduced colour)

pub last-meets : (n : ℕ) (colour : Point → Colour) → Meets colour (last_colour n colour) (suc n)
unfolding last_colour
last-meets zero colour =
    record {
      centre = origin;
      reaches = λ edge.
          record { end = origin; along = along edge; path = Stay origin (record { inside = omega arith; same = refl }) };
    }
  where
    along : (edge : Side) → IsAlong edge 1 origin
    along (First_of Black) = refl
    along (First_of White) = refl
    along Long = refl
last-meets (suc n) colour = raise colour (last_colour n (reduced colour)) (suc n) (last-meets n (reduced colour))

pub meets-last : (n : ℕ) (colour : Point → Colour) (player : Colour) → Meets colour player (suc n) → player ≡ last_colour n colour
unfolding last_colour
meets-last zero colour player m =
    let is : IsOf colour player 1 m.centre = connected-first _ m.centre _ (m.reaches Long).path in
    sym is.same ∙ ap colour (same_point m.centre origin (omega arith) (omega arith))
meets-last (suc n) colour player m = meets-last n (reduced colour) player (lower colour player (suc n) (omega arith) m)
