-- Whether any two vertices of a set are joined. With an own vertex in the set one flood tells, since what is joined
-- with it is joined over it. Without one the groups that touch the set are flooded one after the other, and each adds
-- what it reaches of the set to the sets of these vertices. Nothing is added that is not joined, and nothing is missing
-- in the end: a walk that is more than a touch begins with an own vertex that touches the set, and so leads through one
-- of these groups.
use Rattle.std.proofs.Common.{◌≡◌, ℕ, ◌<◌, Bool, true, false, List, ◌∷◌, [], length, slice_index, replicate, refl, sym, ◌∙◌, subst}
use Rattle.std.proofs.Common.{inl, inr, ⊎_elim}
use Rattle.std.proofs.lemmas.Bool.{false≢true, false_from_ne_true}
use Rattle.std.proofs.lemmas.List.{get_or-replicate}
use Rattle.std.specs.Prelude.{if◌then◌else◌}
use Rattle.hx_board.specs.declared.colours.Colour.{Colour}
use Rattle.hx_board.specs.declared.vertices.Vertex.{Vertex}
use Rattle.hx_board.specs.Sets.{has, insert, remove, union, intersection, difference, IsSubset}
use Rattle.hx_board.specs.Cells.{Extent, IsExtent}
use Rattle.hx_board.specs.Positions.{Board}
use Rattle.hx_board.specs.Graph.{IsVertex, IsOwn, Touches, Joined}
use Rattle.hx_board.specs.VertexSets.{code_of, IsSomeVertex, IsVertexCode, IsSetOf, AreAllJoined}
use Rattle.hx_board.specs.Floods.{TouchesOneOf, IsOrTouches, IsReach, HasReached, IsReached, AreReached}
use Rattle.hx_board.proofs.SetLaws.{has-empty, has-insert_same, has-remove_before, removed_cases}
use Rattle.hx_board.proofs.SetLaws.{has-union_left, has-union_right, has-union_cases}
use Rattle.hx_board.proofs.SetLaws.{has-intersection_left, has-intersection_right, has-intersection_both}
use Rattle.hx_board.proofs.SetLaws.{has-difference_left, has-difference_both}
use Rattle.hx_board.proofs.DifferenceLaws.{difference-lt}
use Rattle.hx_board.proofs.VertexSetLaws.{some-vertex, code-small, code-vertex}
use Rattle.hx_board.proofs.FloodLaws.{has-single, same_vertex}
use Rattle.hx_board.proofs.GroupLaws.{row_keeps, row_adds, row_cases}
use Rattle.hx_board.proofs.Joins.{touches-sym, touches-vertex, joined-sym, joined-over_own, joined-touches}

-- ---- a vertex and what touches it

pub touching-is : (size : Extent) (player : Colour) → IsExtent size.rows size.cols → (vertex : Vertex) → IsVertex size vertex → (near : ℕ)
    → IsSetOf size (TouchesOneOf size player (insert 0 (code_of vertex))) near
    → IsSetOf size (IsOrTouches size player vertex) (union (insert 0 (code_of vertex)) near)
touching-is size player extent vertex is near is_near = record { vertices = vertices; members = λ v is_v. (from_set v is_v, to_set v is_v) }
  where
    vertices : (n : ℕ) → has (union (insert 0 (code_of vertex)) near) n ≡ true → IsVertexCode size n
    vertices n h = ⊎_elim (λ w. record { vertex = vertex; is_vertex = is; is_code = sym (has-single (code_of vertex) n w) })
        (is_near.vertices n) (has-union_cases (insert 0 (code_of vertex)) near n h)

    touched : (v : Vertex) → TouchesOneOf size player (insert 0 (code_of vertex)) v → Touches size player vertex v
    touched v t =
        let P : Vertex → Type 0 = λ x. Touches size player x v in
        subst P (same_vertex size extent t.by vertex t.by_vertex is (has-single (code_of vertex) (code_of t.by) t.by_member)) t.touch

    from_set : (v : Vertex) → IsVertex size v → has (union (insert 0 (code_of vertex)) near) (code_of v) ≡ true
        → IsOrTouches size player vertex v
    from_set v is_v h = ⊎_elim
        (λ w. inl (same_vertex size extent vertex v is is_v (sym (has-single (code_of vertex) (code_of v) w))))
        (λ w. inr (touched v ((is_near.members v is_v).0 w)))
        (has-union_cases (insert 0 (code_of vertex)) near (code_of v) h)

    to_set : (v : Vertex) → IsVertex size v → IsOrTouches size player vertex v
        → has (union (insert 0 (code_of vertex)) near) (code_of v) ≡ true
    to_set v is_v (inl e) =
        let P : Vertex → Type 0 = λ x. has (union (insert 0 (code_of vertex)) near) (code_of x) ≡ true in
        subst P e (has-union_left (insert 0 (code_of vertex)) near (code_of vertex) (has-insert_same 0 (code_of vertex)))
    to_set v is_v (inr t) =
        has-union_right (insert 0 (code_of vertex)) near (code_of v)
        ((is_near.members v is_v).1 (record { by = vertex; by_vertex = is; by_member = has-insert_same 0 (code_of vertex); touch = t }))

-- the own vertices that touch the set, those of them that still wait, and what the groups of the others reach of the
-- set
pub record AreGrouped (board : Board) (player : Colour) (set seeds waiting : ℕ) (sets : List ℕ) : Type 0 where
  pub count : length sets ≡ 123
  pub inside : IsSubset waiting seeds
  pub sound : (v w : Vertex) → IsVertex board.size v → IsVertex board.size w
      → has (slice_index sets (code_of v)) (code_of w) ≡ true → Joined board player v w
  pub done : (u v w : Vertex) → IsVertex board.size u → IsVertex board.size v → IsVertex board.size w
      → has seeds (code_of u) ≡ true → has waiting (code_of u) ≡ false
      → has set (code_of v) ≡ true → has set (code_of w) ≡ true
      → Joined board player u v → Joined board player u w → has (slice_index sets (code_of v)) (code_of w) ≡ true

module _ (board : Board) (player : Colour) (extent : IsExtent board.size.rows board.size.cols) where
  -- ---- one flood

  module _ (set reach : ℕ) (start : Vertex) (is_reach : IsReach board player start set reach) where
    -- an own vertex from which a flood has come to all
    pub reached-joined : IsOwn board player start → IsSubset set reach → AreAllJoined board player set
    reached-joined own inside = λ v w is_v is_w in_v in_w.
        joined-over_own board player v start w own (joined-sym board player start v (is_reach.sound v is_v (inside (code_of v) in_v)))
        (is_reach.sound w is_w (inside (code_of w) in_w))

    -- a flood comes to all that is joined with one of the set
    pub joined-reached : ((n : ℕ) → has set n ≡ true → IsVertexCode board.size n) → IsVertex board.size start
        → has set (code_of start) ≡ true
        → AreAllJoined board player set → IsSubset set reach
    joined-reached codes is in_set all n h = ⊎_elim (λ inside. inside n h)
        (λ whole.
        let w : IsVertexCode board.size n = codes n h in
        rw w.is_code at (whole w.vertex w.is_vertex (all start w.vertex is w.is_vertex in_set (rw w.is_code h))))
        is_reach.whole

  -- ---- each group that touches the set

  pub none-grouped : (set seeds empty : ℕ) → empty ≡ 0 → AreGrouped board player set seeds seeds (replicate 123 empty)
  none-grouped set seeds empty none = record {
    count = refl;
    inside = λ n h. h;
    sound = λ v w is_v is_w h. absurd (false≢true (sym (lacks v is_v (code_of w)) ∙ h));
    done = λ u v w is_u is_v is_w seed waits. absurd (false≢true (sym waits ∙ seed));
  }
    where
      lacks : (v : Vertex) → IsVertex board.size v → (n : ℕ) → has (slice_index (replicate 123 empty) (code_of v)) n ≡ false
      lacks v is n =
          rw (get_or-replicate 123 (code_of v) empty 0 (code-small v (some-vertex board.size extent v is)), none) (has-empty n)

  module _ (set near own seeds : ℕ) (is_own : IsSetOf board.size (IsOwn board player) own)
      (is_near : IsSetOf board.size (TouchesOneOf board.size player set) near) (is_seeds : seeds ≡ intersection near own) where
    in_own : (n : ℕ) → has seeds n ≡ true → has own n ≡ true
    in_own n h = has-intersection_right near own n (rw is_seeds at h)

    seed-own : (v : Vertex) → IsVertex board.size v → has seeds (code_of v) ≡ true → IsOwn board player v
    seed-own v is h = (is_own.members v is).0 (in_own (code_of v) h)

    -- the first vertex that waits starts the next group
    module _ (waiting : ℕ) (sets : List ℕ) (start : Vertex) (k : AreGrouped board player set seeds waiting sets)
        (member : has waiting (code_of start) ≡ true) (some : IsSomeVertex start) where
      pub seed-vertex : IsVertex board.size start
      seed-vertex =
          code-vertex board.size start
          (is_own.vertices (code_of start) (in_own (code_of start) (k.inside (code_of start) member))) some

      own_start : IsOwn board player start
      own_start = seed-own start seed-vertex (k.inside (code_of start) member)

      module _ (reach : ℕ) (is_reach : IsReach board player start set reach) where
        pub one_group-joined : IsSubset set reach → AreAllJoined board player set
        one_group-joined inside = reached-joined set reach start is_reach own_start inside

        module _ (not_all : IsSubset set reach → ⊥) where
          whole : (v : Vertex) → IsVertex board.size v → Joined board player start v → has reach (code_of v) ≡ true
          whole = ⊎_elim (λ all. absurd (not_all all)) (λ w. w) is_reach.whole

          pub seeds-fall : difference waiting reach < waiting
          seeds-fall = difference-lt waiting reach (code_of start) member (whole start seed-vertex (inl refl))

          module _ (after : List ℕ) (count : length after ≡ 123)
              (grown : (n : ℕ) → n < 123 → slice_index after n ≡ (if has (intersection reach set) n
              then union (slice_index sets n) (intersection reach set) else slice_index sets n)) where
            row : (v : Vertex) → IsVertex board.size v → slice_index after (code_of v) ≡ (if has (intersection reach set) (code_of v)
                then union (slice_index sets (code_of v)) (intersection reach set) else slice_index sets (code_of v))
            row v is = grown (code_of v) (code-small v (some-vertex board.size extent v is))

            joined_start : (v : Vertex) → IsVertex board.size v → has (intersection reach set) (code_of v) ≡ true
                → Joined board player start v
            joined_start v is h = is_reach.sound v is (has-intersection_left reach set (code_of v) h)

            over_group : (u v : Vertex) → IsVertex board.size u → IsVertex board.size v → has seeds (code_of u) ≡ true
                → has reach (code_of u) ≡ true → has set (code_of v) ≡ true → Joined board player u v
                → has (intersection reach set) (code_of v) ≡ true
            over_group u v is_u is_v seed in_u in_v j =
                has-intersection_both reach set (code_of v)
                (whole v is_v (joined-over_own board player start u v (seed-own u is_u seed) (is_reach.sound u is_u in_u) j)) in_v

            done_more : (u v w : Vertex) → IsVertex board.size u → IsVertex board.size v → IsVertex board.size w
                → has seeds (code_of u) ≡ true → has (difference waiting reach) (code_of u) ≡ false
                → has set (code_of v) ≡ true → has set (code_of w) ≡ true
                → Joined board player u v → Joined board player u w → has (slice_index after (code_of v)) (code_of w) ≡ true
            done_more u v w is_u is_v is_w seed none in_v in_w j l = cases (has reach (code_of u)) refl
              where
                cases : (b : Bool) → has reach (code_of u) ≡ b → has (slice_index after (code_of v)) (code_of w) ≡ true
                cases true e =
                    row_adds sets after (intersection reach set) (code_of v) (code_of w) (row v is_v)
                    (over_group u v is_u is_v seed e in_v j) (over_group u w is_u is_w seed e in_w l)
                cases false e =
                    row_keeps sets after (intersection reach set) (code_of v) (code_of w) (row v is_v)
                    (k.done u v w is_u is_v is_w seed
                    (false_from_ne_true _ (λ h. false≢true (sym none ∙ has-difference_both waiting reach (code_of u) h e))) in_v in_w j l)

            pub one_more-grouped : AreGrouped board player set seeds (difference waiting reach) after
            one_more-grouped = record {
              count = count;
              inside = λ n h. k.inside n (has-difference_left waiting reach n h);
              sound = λ v w is_v is_w h. ⊎_elim (k.sound v w is_v is_w)
                  (λ t. joined-over_own board player v start w own_start (joined-sym board player start v (joined_start v is_v t.0))
                  (joined_start w is_w t.1))
                  (row_cases sets after (intersection reach set) (code_of v) (code_of w) (row v is_v) h);
              done = done_more;
            }

    -- the end
    module _ (waiting : ℕ) (sets : List ℕ) (none : waiting ≡ 0) (k : AreGrouped board player set seeds waiting sets) where
      pub grouped-joined : AreReached board.size player set sets → AreAllJoined board player set
      grouped-joined reached = λ v w is_v is_w in_v in_w.
          ⊎_elim inl (λ t. ⊎_elim (joined-touches board player v w) (k.sound v w is_v is_w) t) (reached v w is_v is_w in_v in_w)

      found : (v w : Vertex) → IsVertex board.size v → IsVertex board.size w → has set (code_of v) ≡ true → has set (code_of w) ≡ true
          → Joined board player v w → HasReached board.size player sets v w
      found v w is_v is_w in_v in_w (inl e) = inl e
      found v w is_v is_w in_v in_w (inr ([], t)) = inr (inl t)
      found v w is_v is_w in_v in_w (inr (u ∷ us, t)) =
          let is_u : IsVertex board.size u = touches-vertex board.size player v u t.0 in
          let touched : has near (code_of u) ≡ true = (is_near.members u is_u).1
          (record { by = v; by_vertex = is_v; by_member = in_v; touch = t.0 }) in
          let seed : has seeds (code_of u) ≡ true =
          rw is_seeds (has-intersection_both near own (code_of u) touched ((is_own.members u is_u).1 t.1)) in
          inr (inr (k.done u v w is_u is_v is_w seed (rw none (has-empty (code_of u))) in_v in_w
          (joined-touches board player u v (touches-sym board.size player v u t.0)) (inr (us, t.2))))

      pub joined-grouped : AreAllJoined board player set → AreReached board.size player set sets
      joined-grouped all = λ v w is_v is_w in_v in_w. found v w is_v is_w in_v in_w (all v w is_v is_w in_v in_w)

-- ---- each vertex of the set looked at

-- the vertices of the set have what they must, but for those that still wait
pub record AreReachedBut (size : Extent) (player : Colour) (set waiting : ℕ) (sets : List ℕ) : Type 0 where
  pub inside : IsSubset waiting set
  pub reached : (v w : Vertex) → IsVertex size v → IsVertex size w → has set (code_of v) ≡ true → has waiting (code_of v) ≡ false
      → has set (code_of w) ≡ true → HasReached size player sets v w

pub none-reached : (size : Extent) (player : Colour) (set : ℕ) (sets : List ℕ) → AreReachedBut size player set set sets
none-reached size player set sets = record {
  inside = λ n h. h;
  reached = λ v w is_v is_w in_v waits. absurd (false≢true (sym waits ∙ in_v));
}

pub all-reached : (size : Extent) (player : Colour) (set waiting : ℕ) (sets : List ℕ) → waiting ≡ 0
    → AreReachedBut size player set waiting sets
    → AreReached size player set sets
all-reached size player set waiting sets none k = λ v w is_v is_w in_v in_w.
    k.reached v w is_v is_w in_v (rw none (has-empty (code_of v))) in_w

module _ (size : Extent) (player : Colour) (extent : IsExtent size.rows size.cols) (set : ℕ)
    (codes : (n : ℕ) → has set n ≡ true → IsVertexCode size n) (waiting : ℕ) (sets : List ℕ)
    (k : AreReachedBut size player set waiting sets) (next : Vertex) (member : has waiting (code_of next) ≡ true)
    (some : IsSomeVertex next) where
  pub next-vertex : IsVertex size next
  next-vertex = code-vertex size next (codes (code_of next) (k.inside (code_of next) member)) some

  module _ (reached : ℕ) (is_reached : IsReached size player sets next reached) where
    pub one_more-reached : IsSubset set reached → AreReachedBut size player set (remove waiting (code_of next)) sets
    one_more-reached all = record {
      inside = λ n h. k.inside n (has-remove_before waiting (code_of next) n h);
      reached = λ v w is_v is_w in_v out in_w. ⊎_elim
          (λ same. let P : Vertex → Type 0 = λ x. HasReached size player sets x w in
          subst P (sym (same_vertex size extent v next is_v next-vertex same)) ((is_reached w is_w).0 (all (code_of w) in_w)))
          (λ still. k.reached v w is_v is_w in_v still in_w)
          (removed_cases waiting (code_of next) (code_of v) out);
    }

    pub reached-within : AreReached size player set sets → IsSubset set reached
    reached-within all n h =
        let w : IsVertexCode size n = codes n h in
        let in_w : has set (code_of w.vertex) ≡ true = rw w.is_code h in
        rw w.is_code at ((is_reached w.vertex w.is_vertex).1
        (all next w.vertex next-vertex w.is_vertex (k.inside (code_of next) member) in_w))

pub row_and_near-are_reached : (size : Extent) (player : Colour) (sets : List ℕ) (vertex : Vertex) (row near : ℕ)
    → row ≡ slice_index sets (code_of vertex) → IsSetOf size (IsOrTouches size player vertex) near
    → IsReached size player sets vertex (union row near)
row_and_near-are_reached size player sets vertex row near is_row is_near other is = (
  (λ h. ⊎_elim (λ w. inr (inr (rw (← is_row) w))) (λ w. ⊎_elim inl (λ t. inr (inl t)) ((is_near.members other is).0 w))
      (has-union_cases row near (code_of other) h)),
  (λ r. ⊎_elim
      (λ e. has-union_right row near (code_of other) ((is_near.members other is).1 (inl e)))
      (λ t. ⊎_elim (λ w. has-union_right row near (code_of other) ((is_near.members other is).1 (inr w)))
      (λ w. has-union_left row near (code_of other) (rw is_row w)) t)
      r),
)
