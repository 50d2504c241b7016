-- Flooding finds exactly what is joined. A flood keeps that each vertex in it is the start or led to by a walk of own
-- vertices, and where it grows no more, no walk of own vertices leads out of it.
use Rattle.std.proofs.Common.{◌≡◌, ◌≢◌, ℕ, ◌-◌, ◌<◌, ◌≤◌, Bool, ◌||◌, List, [], ◌∷◌, ◌++◌, true, false, refl, sym, ◌∙◌, subst, arith, ◌⊎◌}
use Rattle.std.proofs.Common.{inl, inr, ⊎_elim, ◌↔◌}
use Rattle.std.proofs.lemmas.Bool.{false≢true}
use Rattle.std.proofs.lemmas.Nat.{le_or_l}
use Rattle.hx_board.specs.declared.colours.Colour.{Colour}
use Rattle.hx_board.specs.declared.vertices.Vertex.{Vertex}
use Rattle.hx_board.specs.declared.vertices.Vertex.TheVariants.{Of, First, Last}
use Rattle.hx_board.specs.Sets.{has, insert, union, intersection, IsSubset}
use Rattle.hx_board.specs.Cells.{Extent, IsExtent, OnBoard}
use Rattle.hx_board.specs.Positions.{Board, IsBoard, stones_of}
use Rattle.hx_board.specs.Graph.{IsVertex, IsOwn, Touches, Walk, Joined}
use Rattle.hx_board.specs.VertexSets.{IsVertexCode, IsSetOf, code_of}
use Rattle.hx_board.specs.Floods.{TouchesCellOf, TouchesOneOf, IsAdded, IsGrown, IsReach}
use Rattle.hx_board.proofs.SetLaws.{same_set, has-union, has-union_left, has-union_right, has-union_cases, has-intersection_left}
use Rattle.hx_board.proofs.SetLaws.{has-intersection_right, has-intersection_both, has-insert_cases, has-insert_same, has-insert_other}
use Rattle.hx_board.proofs.SetLaws.{has-empty}
use Rattle.hx_board.proofs.CellLaws.{on_board-small}
use Rattle.hx_board.proofs.Joins.{touches-vertex, walk-append}
use Rattle.hx_board.proofs.VertexSetLaws.{some-vertex, code-same}

pub le-union : (s t : ℕ) → s ≤ union s t
unfolding union
le-union s t = le_or_l s t

pub le-subset : (s t : ℕ) → IsSubset s t → s ≤ t
le-subset s t inside =
    let same : union s t ≡ t = same_set _ _ (λ n. has-union s t n ∙ absorbed (has s n) (has t n) (inside n)) in
    let P : ℕ → Type 0 = λ x. s ≤ x in subst P same (le-union s t)
  where
    absorbed : (a b : Bool) → (a ≡ true → b ≡ true) → (a || b) ≡ b
    absorbed true b h = sym (h refl)
    absorbed false b h = refl

pub has-single : (k n : ℕ) → has (insert 0 k) n ≡ true → n ≡ k
has-single k n h = ⊎_elim (λ e. e) (λ w. absurd (false≢true (sym (has-empty n) ∙ w))) (has-insert_cases 0 k n h)

module _ (size : Extent) (extent : IsExtent size.rows size.cols) where
  within : (n : ℕ) → OnBoard size n → n < 121
  within n on = on_board-small size n extent on

  -- different vertices have different codes
  pub same_vertex : (v w : Vertex) → IsVertex size v → IsVertex size w → code_of v ≡ code_of w → v ≡ w
  same_vertex v w is_v is_w e = code-same v w (some-vertex size extent v is_v) (some-vertex size extent w is_w) e

-- the player's stones with both sides
pub own-is : (board : Board) (player : Colour) (stones : ℕ) → IsBoard board → stones ≡ stones_of board player
    → IsSetOf board.size (IsOwn board player) (insert (insert stones 121) 122)
own-is board player stones valid same = record { vertices = vertices; members = members }
  where
    inside : (player : Colour) (n : ℕ) → has (stones_of board player) n ≡ true → OnBoard board.size n
    inside Colour.Black n h = valid.1.black_inside n h
    inside Colour.White n h = valid.1.white_inside n h

    cases : {P : Type 0} (n : ℕ) → has (insert (insert stones 121) 122) n ≡ true
        → (has (stones_of board player) n ≡ true → P) → (n ≡ 121 → P) → (n ≡ 122 → P) → P
    cases n h a b c =
        ⊎_elim c (λ w. ⊎_elim b (λ v. a (rw (← same) v)) (has-insert_cases stones 121 n w)) (has-insert_cases (insert stones 121) 122 n h)

    vertices : (n : ℕ) → has (insert (insert stones 121) 122) n ≡ true → IsVertexCode board.size n
    vertices n h =
        cases n h (λ a. record { vertex = Of n; is_vertex = inside player n a; is_code = refl })
        (λ e. record { vertex = First; is_vertex = tt; is_code = sym e })
        (λ e. record { vertex = Last; is_vertex = tt; is_code = sym e })

    members : (v : Vertex) → IsVertex board.size v → (has (insert (insert stones 121) 122) (code_of v) ≡ true) ↔ IsOwn board player v
    members (Of n) is =
        let small : n < 121 = on_board-small board.size n valid.0 is in (
          (λ h. cases n h (λ a. a) (λ e. absurd (omega arith)) (λ e. absurd (omega arith))),
          (λ h. has-insert_other (insert stones 121) 122 n (has-insert_other stones 121 n (rw same h))),
        )
    members First is = ((λ _. tt), (λ _. has-insert_other (insert stones 121) 122 121 (has-insert_same stones 121)))
    members Last is = ((λ _. tt), (λ _. has-insert_same (insert stones 121) 122))

-- a player's stones are cells of the board
pub stones-small : (board : Board) (player : Colour) → IsBoard board → (n : ℕ) → has (stones_of board player) n ≡ true → n < 121
stones-small board Colour.Black valid n h = on_board-small board.size n valid.0 (valid.1.black_inside n h)
stones-small board Colour.White valid n h = on_board-small board.size n valid.0 (valid.1.white_inside n h)

-- a set below 2 ^ 128 that grows at each step cannot grow for ever
pub growth-ends : (limit before after : ℕ) → before ≤ after → after ≢ before → after < limit → limit - after < limit - before
growth-ends limit before after grows apart small = omega arith

-- and so where more is added at the end of each step
pub growth_and_more-ends : (limit before after more : ℕ) → before ≤ after → after ≢ before → after ≤ more → more < limit
    → limit - more < limit - before
growth_and_more-ends limit before after more grows apart further small = omega arith

-- a set with own cells that touch a cell in it
pub cells-grow : (board : Board) (player : Colour) (set cells own : ℕ) → IsSetOf board.size (IsOwn board player) own
    → ((n : ℕ) → (has cells n ≡ true) ↔ TouchesCellOf board.size set n)
    → IsGrown board player set (union set (intersection cells own))
cells-grow board player set cells own is_own is_cells = record {
  kept = has-union_left set _;
  added = λ n h. ⊎_elim inl (λ w. inr (added n (has-intersection_left cells own n w) (has-intersection_right cells own n w)))
      (has-union_cases set (intersection cells own) n h);
}
  where
    added : (n : ℕ) → has cells n ≡ true → has own n ≡ true → IsAdded board player set n
    added n near mine =
        let t : TouchesCellOf board.size set n = (is_cells n).0 near in
        record {
          vertex = Of n;
          is_vertex = t.on_board;
          is_code = refl;
          own = (is_own.members (Of n) t.on_board).0 mine;
          touch = record { by = Of t.by; by_vertex = t.by_on_board; by_member = t.by_member; touch = (t.by_on_board, t.on_board, t.touch) };
        }

-- some walk of own inner vertices leads to an own vertex
abbrev pub Leads : Board → Colour → Vertex → Vertex → Type 0
Leads board player from to = IsOwn board player to × ((inner : List Vertex) × Walk board player from inner to)

-- a set of vertices that has the start, and beside it only own vertices that a walk leads to
pub record IsFlood (board : Board) (player : Colour) (start : Vertex) (set : ℕ) : Type 0 where
  pub started : has set (code_of start) ≡ true
  pub vertices : (n : ℕ) → has set n ≡ true → IsVertexCode board.size n
  pub sound : (vertex : Vertex) → IsVertex board.size vertex → has set (code_of vertex) ≡ true → (vertex ≡ start)
      ⊎ Leads board player start vertex

-- no own vertex outside the set touches one in it
abbrev pub HoldsItsNeighbours : Board → Colour → ℕ → Type 0
HoldsItsNeighbours board player set =
    (vertex : Vertex) → IsVertex board.size vertex → IsOwn board player vertex → TouchesOneOf board.size player set vertex
    → has set (code_of vertex) ≡ true

module _ (board : Board) (player : Colour) where
  pub single-is_flood : IsExtent board.size.rows board.size.cols → (start : Vertex) → IsVertex board.size start → (n : ℕ)
      → code_of start ≡ n → IsFlood board player start (insert 0 n)
  single-is_flood extent start is n e = record {
    started = rw e (has-insert_same 0 n);
    vertices = λ k h. record { vertex = start; is_vertex = is; is_code = e ∙ sym (has-single n k h) };
    sound = λ v is_v h. inl (same_vertex board.size extent v start is_v is (has-single n (code_of v) h ∙ sym e));
  }

  leads_more : (start by v : Vertex) → (by ≡ start) ⊎ Leads board player start by → IsOwn board player v → Touches board.size player by v
      → Leads board player start v
  leads_more start by v (inl e) own t = (own, ([], let P : Vertex → Type 0 = λ x. Touches board.size player x v in subst P e t))
  leads_more start by v (inr w) own t = (own, (w.1.0 ++ by ∷ [], walk-append board player w.1.0 [] start by v w.1.1 w.0 t))

  -- a flood stays one where own vertices that touch it are added
  pub grown-stays_flood : IsExtent board.size.rows board.size.cols → (start : Vertex) (set grown : ℕ) → IsGrown board player set grown
      → IsFlood board player start set → IsFlood board player start grown
  grown-stays_flood extent start set grown g f = record {
    started = g.kept (code_of start) f.started;
    vertices = λ n h. ⊎_elim (f.vertices n) (λ a. record { vertex = a.vertex; is_vertex = a.is_vertex; is_code = a.is_code }) (g.added n h);
    sound = λ v is_v h. ⊎_elim (f.sound v is_v) (λ a. inr (led v is_v a)) (g.added (code_of v) h);
  }
    where
      led : (v : Vertex) → IsVertex board.size v → IsAdded board player set (code_of v) → Leads board player start v
      led v is_v a =
          let by : Vertex = a.touch.by in
          let P : Vertex → Type 0 = λ x. Leads board player start x in
          subst P (same_vertex board.size extent a.vertex v a.is_vertex is_v a.is_code)
          (leads_more start by a.vertex (f.sound by a.touch.by_vertex a.touch.by_member) a.own a.touch.touch)

  module _ (own set near : ℕ) (is_own : IsSetOf board.size (IsOwn board player) own)
      (is_near : IsSetOf board.size (TouchesOneOf board.size player set) near) where
    pub grown-is_flood : (start : Vertex) → IsFlood board player start set → IsFlood board player start (union set (intersection near own))
    grown-is_flood start f = record {
      started = has-union_left set _ (code_of start) f.started;
      vertices = λ n h. ⊎_elim (f.vertices n) (λ w. is_near.vertices n (has-intersection_left near own n w))
          (has-union_cases set (intersection near own) n h);
      sound = λ v is_v h. ⊎_elim (f.sound v is_v)
          (λ w.
          let t : TouchesOneOf board.size player set v = (is_near.members v is_v).0 (has-intersection_left near own (code_of v) w) in
          inr (leads_more start t.by v (f.sound t.by t.by_vertex t.by_member)
          ((is_own.members v is_v).0 (has-intersection_right near own (code_of v) w)) t.touch))
          (has-union_cases set (intersection near own) (code_of v) h);
    }

    grown-is_closed : union set (intersection near own) ≡ set → HoldsItsNeighbours board player set
    grown-is_closed same v is_v own_v t =
        rw same at (has-union_right set _ (code_of v)
        (has-intersection_both near own (code_of v) ((is_near.members v is_v).1 t) ((is_own.members v is_v).1 own_v)))

    walked : HoldsItsNeighbours board player set → (inner : List Vertex) (from to : Vertex) → IsVertex board.size from
        → has set (code_of from) ≡ true
        → Walk board player from inner to → TouchesOneOf board.size player set to
    walked closed [] from to is h w = record { by = from; by_vertex = is; by_member = h; touch = w }
    walked closed (v ∷ vs) from to is h w =
        let is_v : IsVertex board.size v = touches-vertex board.size player from v w.0 in
        walked closed vs v to is_v (closed v is_v w.1 (record { by = from; by_vertex = is; by_member = h; touch = w.0 })) w.2

    flood-joined : (start to : Vertex) → IsFlood board player start set → TouchesOneOf board.size player set to
        → Joined board player start to
    flood-joined start to f t =
        ⊎_elim (λ e. inr ([], let P : Vertex → Type 0 = λ x. Touches board.size player x to in subst P e t.touch))
        (λ w. inr (w.1.0 ++ t.by ∷ [], walk-append board player w.1.0 [] start t.by to w.1.1 w.0 t.touch))
        (f.sound t.by t.by_vertex t.by_member)

    joined-flood : HoldsItsNeighbours board player set → (start to : Vertex) → IsVertex board.size start → IsVertex board.size to
        → IsFlood board player start set
        → Joined board player start to → has (union set near) (code_of to) ≡ true
    joined-flood closed start to is is_to f (inl e) =
        let P : Vertex → Type 0 = λ x. has (union set near) (code_of x) ≡ true in
        subst P e (has-union_left set near (code_of start) f.started)
    joined-flood closed start to is is_to f (inr w) =
        has-union_right set near (code_of to) ((is_near.members to is_to).1 (walked closed w.0 start to is f.started w.1))

    flood-vertices : (start : Vertex) → IsFlood board player start set → (n : ℕ) → has (union set near) n ≡ true → IsVertexCode board.size n
    flood-vertices start f n h = ⊎_elim (f.vertices n) (is_near.vertices n) (has-union_cases set near n h)

    flood-sound : (start : Vertex) → IsFlood board player start set → (v : Vertex) → IsVertex board.size v
        → has (union set near) (code_of v) ≡ true → Joined board player start v
    flood-sound start f v is_v h =
        ⊎_elim (λ w. ⊎_elim (λ e. inl (sym e)) (λ l. inr l.1) (f.sound v is_v w))
        (λ w. flood-joined start v f ((is_near.members v is_v).0 w))
        (has-union_cases set near (code_of v) h)

    -- where a flood grows no more, it and what touches it are what the start is joined with
    pub flood-is : union set (intersection near own) ≡ set → (start : Vertex) → IsVertex board.size start → IsFlood board player start set
        → IsSetOf board.size (Joined board player start) (union set near)
    flood-is same start is f = record {
      vertices = flood-vertices start f;
      members = λ v is_v. (flood-sound start f v is_v, λ j. joined-flood (grown-is_closed same) start v is is_v f j);
    }

    -- a flood that has come to all that is wanted, and one that grows no more
    pub wanted-are_reached : (start : Vertex) (wanted : ℕ) → IsFlood board player start set → IsSubset wanted (union set near)
        → IsReach board player start wanted (union set near)
    wanted-are_reached start wanted f all = record { vertices = flood-vertices start f; sound = flood-sound start f; whole = inl all }

    pub all-are_reached : union set (intersection near own) ≡ set → (start : Vertex) (wanted : ℕ) → IsVertex board.size start
        → IsFlood board player start set → IsReach board player start wanted (union set near)
    all-are_reached same start wanted is f = record {
      vertices = flood-vertices start f;
      sound = flood-sound start f;
      whole = inr (λ v is_v j. joined-flood (grown-is_closed same) start v is is_v f j);
    }
