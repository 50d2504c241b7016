-- The sets that `Groups` keeps. At first each cell has itself and the cells that touch it; then one group after another
-- adds all that it reaches to the set of each vertex that it reaches. Nothing is added that is not joined, since a
-- group's vertices are own and what is joined is joined over them. And nothing is missing in the end, since a walk that
-- is more than a touch has an own inner vertex, with which both its ends are joined.
use Rattle.std.proofs.Common.{◌≡◌, ◌≢◌, ℕ, ◌<◌, Bool, true, false, not, ◌&&◌, List, [], ◌∷◌, length, slice_index, get_or}
use Rattle.std.proofs.Common.{eqb, eq-eqb, refl, sym, ap, ◌∙◌, subst, arith, ◌⊎◌, inl, inr, ⊎_elim}
use Rattle.std.proofs.Math.ListN.{set}
use Rattle.std.proofs.Math.Bool.{and-true}
use Rattle.std.proofs.lemmas.Bool.{false≢true, false_from_ne_true}
use Rattle.std.proofs.lemmas.Bool.Decides.{eqb_tells}
use Rattle.std.proofs.lemmas.List.{get_or-set_same, get_or-set_other, length-set, get_or_read}
use Rattle.std.specs.Prelude.{if◌then◌else◌}
use Rattle.hx_board.specs.declared.colours.Colour.{Colour}
use Rattle.hx_board.specs.declared.vertices.Vertex.{Vertex}
use Rattle.hx_board.specs.declared.vertices.Vertex.TheVariants.{Of, First, Last}
use Rattle.hx_board.specs.Sets.{has, remove, union, difference, IsSubset}
use Rattle.hx_board.specs.Cells.{IsExtent, OnBoard, CellsTouch}
use Rattle.hx_board.specs.Positions.{Board, IsBoard}
use Rattle.hx_board.specs.Graph.{IsVertex, IsOwn, Touches, Joined}
use Rattle.hx_board.specs.VertexSets.{code_of, IsSomeVertex, IsVertexCode, IsSetOf}
use Rattle.hx_board.specs.Floods.{AreNear, AreJoined}
use Rattle.hx_board.proofs.SetLaws.{has-empty, has-remove, has-remove_before, has-union_left, has-union_right}
use Rattle.hx_board.proofs.SetLaws.{has-union_cases, has-difference_left, has-difference_both}
use Rattle.hx_board.proofs.CellLaws.{on_board-small}
use Rattle.hx_board.proofs.DifferenceLaws.{difference-lt}
use Rattle.hx_board.proofs.VertexSetLaws.{some-vertex, code-small}
use Rattle.hx_board.proofs.VertexSetLaws.{code-vertex}
use Rattle.hx_board.proofs.Joins.{touches-sym, touches-vertex, joined-sym, joined-over_own, joined-touches}

-- ---- a set joined

-- the set of each vertex of a group has grown, but for those that still wait
pub record AreJoinedBut (before after : List ℕ) (group waiting : ℕ) : Type 0 where
  pub count : length after ≡ 123
  pub inside : IsSubset waiting group
  pub sets : (n : ℕ) → n < 123
      → slice_index after n ≡ (if has group n && not (has waiting n) then union (slice_index before n) group else slice_index before n)

pub joined_none : (before : List ℕ) (group : ℕ) → length before ≡ 123 → AreJoinedBut before before group group
joined_none before group count = record {
  count = count;
  inside = λ n h. h;
  sets = λ n low. sym (rw (none (has group n)) refl);
}
  where
    none : (a : Bool) → (a && not a) ≡ false
    none true = refl
    none false = refl

pub joined_more : (before after : List ℕ) (group waiting place row : ℕ) → place < 123 → has waiting place ≡ true
    → row ≡ slice_index after place
    → AreJoinedBut before after group waiting → AreJoinedBut before (set after place (union row group)) group (remove waiting place)
joined_more before after group waiting place row small member is k = record {
  count = length-set after place (union row group) ∙ k.count;
  inside = λ n h. k.inside n (has-remove_before waiting place n h);
  sets = λ n low. ⊎_elim (λ t. here n t.1) (λ t. there n low t.0 t.1) (eqb_tells n place);
}
  where
    within : place < length after
    within = rw k.count (omega arith)

    was : slice_index after place ≡ slice_index before place
    was = k.sets place small ∙ rw (k.inside place member, member) refl

    here : (n : ℕ) → n ≡ place → slice_index (set after place (union row group)) n
        ≡ (if has group n && not (has (remove waiting place) n) then union (slice_index before n) group else slice_index before n)
    here n same =
        let P : ℕ → Type 0 = λ x. slice_index (set after place (union row group)) x
        ≡ (if has group x && not (has (remove waiting place) x) then union (slice_index before x) group else slice_index before x) in
        subst P (sym same)
        (rw (
          get_or-set_same after place (union row group) 0 within,
          has-remove waiting place place,
          eq-eqb place place refl,
          member,
          k.inside place member,
        )
        (ap (λ (x : ℕ). union x group) (is ∙ was)))

    there : (n : ℕ) → n < 123 → eqb n place ≡ false → n ≢ place → slice_index (set after place (union row group)) n
        ≡ (if has group n && not (has (remove waiting place) n) then union (slice_index before n) group else slice_index before n)
    there n low fails apart =
        rw (get_or-set_other after place n (union row group) 0 apart, has-remove waiting place n, fails, and-true (has waiting n))
        (k.sets n low)

pub joined_all : (before after : List ℕ) (group waiting : ℕ) → waiting ≡ 0 → AreJoinedBut before after group waiting → (n : ℕ) → n < 123
    → slice_index after n ≡ (if has group n then union (slice_index before n) group else slice_index before n)
joined_all before after group waiting none k n low =
    k.sets n low ∙ rw (none, has-empty n, and-true (has group n)) refl

-- the set of one number, which has grown by the group where the number is in it
module _ (before after : List ℕ) (group place n : ℕ)
    (row : slice_index after place ≡ (if has group place then union (slice_index before place) group else slice_index before place)) where
  pub row_keeps : has (slice_index before place) n ≡ true → has (slice_index after place) n ≡ true
  row_keeps h = rw row (kept (has group place))
    where
      kept : (b : Bool) → has (if b then union (slice_index before place) group else slice_index before place) n ≡ true
      kept true = has-union_left (slice_index before place) group n h
      kept false = h

  pub row_adds : has group place ≡ true → has group n ≡ true → has (slice_index after place) n ≡ true
  row_adds here there = rw (row, here) (has-union_right (slice_index before place) group n there)

  pub row_cases : has (slice_index after place) n ≡ true
      → (has (slice_index before place) n ≡ true) ⊎ ((has group place ≡ true) × (has group n ≡ true))
  row_cases h = cases (has group place) refl (rw row at h)
    where
      cases : (b : Bool) → has group place ≡ b
          → has (if b then union (slice_index before place) group else slice_index before place) n ≡ true
          → (has (slice_index before place) n ≡ true) ⊎ ((has group place ≡ true) × (has group n ≡ true))
      cases true e w = ⊎_elim inl (λ a. inr (e, a)) (has-union_cases (slice_index before place) group n w)
      cases false e w = inl w

-- ---- each group joined

-- nothing is joined in these sets that is not in the graph, cells are joined with what touches them, and each vertex is
-- joined over all own vertices but those that still wait
pub record AreJoinedOver (board : Board) (player : Colour) (sets : List ℕ) (own waiting : ℕ) : Type 0 where
  pub count : length sets ≡ 123
  pub inside : IsSubset waiting own
  pub vertices : (v : Vertex) → IsVertex board.size v → (n : ℕ) → has (slice_index sets (code_of v)) n ≡ true → IsVertexCode board.size n
  pub sound : (v w : Vertex) → IsVertex board.size v → IsVertex board.size w
      → has (slice_index sets (code_of v)) (code_of w) ≡ true → Joined board player v w
  pub near : (cell other : ℕ) → OnBoard board.size cell → OnBoard board.size other → (other ≡ cell) ⊎ CellsTouch cell other
      → has (slice_index sets cell) other ≡ true
  pub done : (u v w : Vertex) → IsVertex board.size u → IsVertex board.size v → IsVertex board.size w
      → IsOwn board player u → has waiting (code_of u) ≡ false
      → Joined board player u v → Joined board player u w → has (slice_index sets (code_of v)) (code_of w) ≡ true

module _ (board : Board) (player : Colour) (extent : IsExtent board.size.rows board.size.cols)
    (own : ℕ) (is_own : IsSetOf board.size (IsOwn board player) own) where
  within : (n : ℕ) → OnBoard board.size n → n < 121
  within n on = on_board-small board.size n extent on

  module _ (sets : List ℕ) (k : AreNear board.size 121 sets) where
    first_none : (n : ℕ) → has (slice_index sets 121) n ≡ true → ⊥
    first_none n h = false≢true (sym (has-empty n) ∙ rw k.first at h)

    last_none : (n : ℕ) → has (slice_index sets 122) n ≡ true → ⊥
    last_none n h = false≢true (sym (has-empty n) ∙ rw k.last at h)

    in_near : (cell other : ℕ) → OnBoard board.size cell → has (slice_index sets cell) other ≡ true
        → OnBoard board.size other × ((other ≡ cell) ⊎ CellsTouch cell other)
    in_near cell other on h = (k.cells cell (within cell on) on other).0 h

    near-vertices : (v : Vertex) → IsVertex board.size v → (n : ℕ) → has (slice_index sets (code_of v)) n ≡ true → IsVertexCode board.size n
    near-vertices (Of cell) on n h = record { vertex = Of n; is_vertex = (in_near cell n on h).0; is_code = refl }
    near-vertices First on n h = absurd (first_none n h)
    near-vertices Last on n h = absurd (last_none n h)

    near-sound : (v w : Vertex) → IsVertex board.size v → IsVertex board.size w
        → has (slice_index sets (code_of v)) (code_of w) ≡ true → Joined board player v w
    near-sound (Of cell) (Of other) on there h =
        ⊎_elim (λ e. inl (ap Of (sym e))) (λ t. joined-touches board player (Of cell) (Of other) (on, there, t)) (in_near cell other on h).1
    near-sound (Of cell) First on there h = let small : 121 < 121 = within 121 (in_near cell 121 on h).0 in absurd (omega arith)
    near-sound (Of cell) Last on there h = let small : 122 < 121 = within 122 (in_near cell 122 on h).0 in absurd (omega arith)
    near-sound First w on there h = absurd (first_none (code_of w) h)
    near-sound Last w on there h = absurd (last_none (code_of w) h)

    pub over_none : AreJoinedOver board player sets own own
    over_none = record {
      count = k.count;
      inside = λ n h. h;
      vertices = near-vertices;
      sound = near-sound;
      near = λ cell other on there t. (k.cells cell (within cell on) on other).1 (there, t);
      done = λ u v w is_u is_v is_w own_u none. absurd (false≢true (sym none ∙ (is_own.members u is_u).1 own_u));
    }

  -- one group more: all that the start is joined with is joined
  module _ (before after : List ℕ) (waiting reach : ℕ) (start : Vertex)
      (is_start : IsVertex board.size start) (own_start : IsOwn board player start)
      (is_reach : IsSetOf board.size (Joined board player start) reach)
      (k : AreJoinedOver board player before own waiting) (count : length after ≡ 123)
      (grown : (n : ℕ) → n < 123 → slice_index after n
      ≡ (if has reach n then union (slice_index before n) reach else slice_index before n)) where
    row : (v : Vertex) → IsVertex board.size v
        → slice_index after (code_of v)
        ≡ (if has reach (code_of v) then union (slice_index before (code_of v)) reach else slice_index before (code_of v))
    row v is = grown (code_of v) (code-small v (some-vertex board.size extent v is))

    keeps : (v : Vertex) → IsVertex board.size v → (n : ℕ) → has (slice_index before (code_of v)) n ≡ true
        → has (slice_index after (code_of v)) n ≡ true
    keeps v is n h = row_keeps before after reach (code_of v) n (row v is) h

    adds : (v : Vertex) → IsVertex board.size v → (n : ℕ) → has reach (code_of v) ≡ true → has reach n ≡ true
        → has (slice_index after (code_of v)) n ≡ true
    adds v is n in_v in_n = row_adds before after reach (code_of v) n (row v is) in_v in_n

    no_more : (v : Vertex) → IsVertex board.size v → (n : ℕ) → has (slice_index after (code_of v)) n ≡ true
        → (has (slice_index before (code_of v)) n ≡ true) ⊎ ((has reach (code_of v) ≡ true) × (has reach n ≡ true))
    no_more v is n h = row_cases before after reach (code_of v) n (row v is) h

    both_joined : (v w : Vertex) → IsVertex board.size v → IsVertex board.size w → has reach (code_of v) ≡ true
        → has reach (code_of w) ≡ true → Joined board player v w
    both_joined v w is_v is_w in_v in_w =
        joined-over_own board player v start w own_start (joined-sym board player start v ((is_reach.members v is_v).0 in_v))
        ((is_reach.members w is_w).0 in_w)

    over_group : (u v : Vertex) → IsVertex board.size u → IsVertex board.size v → IsOwn board player u
        → has reach (code_of u) ≡ true → Joined board player u v → has reach (code_of v) ≡ true
    over_group u v is_u is_v own_u in_u j =
        (is_reach.members v is_v).1 (joined-over_own board player start u v own_u ((is_reach.members u is_u).0 in_u) j)

    done_more : (u v w : Vertex) → IsVertex board.size u → IsVertex board.size v → IsVertex board.size w
        → IsOwn board player u → has (difference waiting reach) (code_of u) ≡ false
        → Joined board player u v → Joined board player u w → has (slice_index after (code_of v)) (code_of w) ≡ true
    done_more u v w is_u is_v is_w own_u none j l = cases (has reach (code_of u)) refl
      where
        cases : (b : Bool) → has reach (code_of u) ≡ b → has (slice_index after (code_of v)) (code_of w) ≡ true
        cases true e = adds v is_v (code_of w) (over_group u v is_u is_v own_u e j) (over_group u w is_u is_w own_u e l)
        cases false e =
            keeps v is_v (code_of w)
            (k.done u v w is_u is_v is_w own_u
            (false_from_ne_true _ (λ h. false≢true (sym none ∙ has-difference_both waiting reach (code_of u) h e)))
            j l)

    pub over_more : AreJoinedOver board player after own (difference waiting reach)
    over_more = record {
      count = count;
      inside = λ n h. k.inside n (has-difference_left waiting reach n h);
      vertices = λ v is n h. ⊎_elim (k.vertices v is n) (λ w. is_reach.vertices n w.1) (no_more v is n h);
      sound = λ v w is_v is_w h. ⊎_elim (k.sound v w is_v is_w) (λ t. both_joined v w is_v is_w t.0 t.1) (no_more v is_v (code_of w) h);
      near = λ cell other on there t. keeps (Of cell) on other (k.near cell other on there t);
      done = done_more;
    }

  -- the first vertex that waits starts the next group
  module _ (sets : List ℕ) (waiting : ℕ) (start : Vertex) (k : AreJoinedOver board player sets own waiting)
      (member : has waiting (code_of start) ≡ true)
      (some : IsSomeVertex start) where
    pub start-vertex : IsVertex board.size start
    start-vertex = code-vertex board.size start (is_own.vertices (code_of start) (k.inside (code_of start) member)) some

    module _ (reach : ℕ) (is_reach : IsSetOf board.size (Joined board player start) reach) where
      pub waiting-falls : difference waiting reach < waiting
      waiting-falls = difference-lt waiting reach (code_of start) member ((is_reach.members start start-vertex).1 (inl refl))

      pub over_next : (after : List ℕ) → length after ≡ 123
          → ((n : ℕ) → n < 123 → slice_index after n ≡ (if has reach n then union (slice_index sets n) reach else slice_index sets n))
          → AreJoinedOver board player after own (difference waiting reach)
      over_next after count grown =
          over_more sets after waiting reach start start-vertex ((is_own.members start start-vertex).0 (k.inside (code_of start) member))
          is_reach k count grown

  -- the end
  module _ (sets : List ℕ) (waiting : ℕ) (none : waiting ≡ 0) (k : AreJoinedOver board player sets own waiting) where
    over : (u v w : Vertex) → IsVertex board.size u → IsVertex board.size v → IsVertex board.size w → IsOwn board player u
        → Joined board player u v → Joined board player u w → has (slice_index sets (code_of v)) (code_of w) ≡ true
    over u v w is_u is_v is_w own_u = k.done u v w is_u is_v is_w own_u (rw none (has-empty (code_of u)))

    same : (v : Vertex) → IsVertex board.size v → has (slice_index sets (code_of v)) (code_of v) ≡ true
    same (Of cell) on = k.near cell cell on on (inl refl)
    same First on = over First First First tt tt tt tt (inl refl) (inl refl)
    same Last on = over Last Last Last tt tt tt tt (inl refl) (inl refl)

    touching : (v w : Vertex) → IsVertex board.size v → IsVertex board.size w → Touches board.size player v w
        → has (slice_index sets (code_of v)) (code_of w) ≡ true
    touching (Of cell) (Of other) on there t = k.near cell other on there (inr t.2)
    touching (Of cell) First on there t = over First (Of cell) First tt on tt tt (joined-touches board player First (Of cell) t) (inl refl)
    touching (Of cell) Last on there t = over Last (Of cell) Last tt on tt tt (joined-touches board player Last (Of cell) t) (inl refl)
    touching First w on there t = over First First w tt tt there tt (inl refl) (joined-touches board player First w t)
    touching Last w on there t = over Last Last w tt tt there tt (inl refl) (joined-touches board player Last w t)

    complete : (v w : Vertex) → IsVertex board.size v → IsVertex board.size w → Joined board player v w
        → has (slice_index sets (code_of v)) (code_of w) ≡ true
    complete v w is_v is_w (inl e) =
        let P : Vertex → Type 0 = λ x. has (slice_index sets (code_of v)) (code_of x) ≡ true in
        subst P e (same v is_v)
    complete v w is_v is_w (inr ([], t)) = touching v w is_v is_w t
    complete v w is_v is_w (inr (u ∷ us, t)) =
        over u v w (touches-vertex board.size player v u t.0) is_v is_w t.1
        (joined-touches board player u v (touches-sym board.size player v u t.0)) (inr (us, t.2))

    pub over_all : IsBoard board → AreJoined board player sets
    over_all valid = record {
      valid = valid;
      count = k.count;
      joined = λ v is. record {
        vertices = k.vertices v is;
        members = λ w is_w. (k.sound v w is is_w, complete v w is is_w);
      };
    }

-- ---- reads

pub read-is : (sets : List ℕ) (n found : ℕ) → n < length sets → found ≡ get_or sets n found → get_or sets n found ≡ slice_index sets n
read-is sets n found small is = sym is ∙ get_or_read sets n found small is 0
