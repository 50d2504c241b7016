-- The makers of a cell. With a further stone of the player the cell is dead where each of its open neighbours is joined
-- with all of them, or with the stone's cell: two that were not joined are both joined with that cell, and so with each
-- other.
use Rattle.std.proofs.Common.{◌≡◌, ◌≢◌, ℕ, true, false, ◌&&◌, sym, ◌∙◌, subst, inl, inr, ⊎_elim, ◌↔◌, IsTrue, ltb}
use Rattle.std.proofs.lemmas.Bool.{false≢true, lt-ltb, and_from}
use Rattle.hx_board.specs.declared.cells.TheConstants.{CELLS}
use Rattle.hx_board.specs.declared.colours.Colour.{Colour}
use Rattle.hx_board.specs.declared.vertices.Vertex.{Vertex}
use Rattle.hx_board.specs.declared.vertices.Vertex.TheVariants.{Of}
use Rattle.hx_board.specs.Sets.{has, remove, intersection, IsSubset}
use Rattle.hx_board.specs.Cells.{IsExtent, OnBoard}
use Rattle.hx_board.specs.Positions.{Board, IsEmpty, put}
use Rattle.hx_board.specs.Graph.{Joined}
use Rattle.hx_board.specs.VertexSets.{code_of, IsVertexCode, IsSetOf}
use Rattle.hx_board.proofs.SetLaws.{has-empty, has-remove_before, has-intersection_left, has-intersection_right, has-intersection_both}
use Rattle.hx_board.proofs.SetLaws.{first_of_both, removed, removed_cases, removed_still, has-remove_other, by_member}
use Rattle.hx_board.proofs.CellLaws.{on_board-small}
use Rattle.hx_board.proofs.FloodLaws.{same_vertex}
use Rattle.hx_board.proofs.StoneLaws.{empty-put}
use Rattle.hx_board.proofs.Joins.{joined-sym}
use Rattle.hx_inferior.specs.Inferior.{IsOpenNeighbour, IsDead}
use Rattle.hx_fill.specs.declared.makers.Makers.{Makers}
use Rattle.hx_fill.specs.Makers.{AreMakers, AreVertices, IsAmong, JoinsEach, JoinsEachOr, IsNarrowed, AreNarrowed}
use Rattle.hx_fill.proofs.JoinedAfter.{joined_before, joined_still, joined_over_stone}
use Rattle.hx_fill.proofs.OpenAfter.{among-open, open_before, open_after}

pub differs-removed : (set cell n : ℕ) → has (remove set cell) n ≡ true → n ≢ cell
differs-removed set cell n h e =
    false≢true (sym (removed set cell) ∙ (let P : ℕ → Type 0 = λ x. has (remove set cell) x ≡ true in subst P e h))

-- some empty cells, but for one
pub others_are : (board : Board) (among cell others : ℕ) → others ≡ remove among cell → ((n : ℕ) → has among n ≡ true → IsEmpty board n)
    → (n : ℕ) → (has others n ≡ true) ↔ ((has among n ≡ true) × (IsEmpty board n × (n ≢ cell)))
others_are board among cell others same empty n = rw same (
  (λ h. let before : has among n ≡ true = has-remove_before among cell n h in (before, (empty n before, differs-removed among cell n h))),
  (λ all. has-remove_other among cell n all.1.1 all.0),
)

-- ---- one open neighbour

module _ (board : Board) (player : Colour) (around : ℕ) (vertex : Vertex) (joined : ℕ)
    (is : IsSetOf board.size (Joined board player vertex) joined) where
  pub inside-joins : IsSubset around joined → JoinsEach board player around vertex
  inside-joins inside other among = (is.members other among.0).0 (inside (code_of other) among.1)

  pub joins-inside : AreVertices board.size around → JoinsEach board player around vertex → IsSubset around joined
  joins-inside vertices joins n h =
      let w : IsVertexCode board.size n = vertices n h in
      let P : ℕ → Type 0 = λ x. has around x ≡ true in
      let Q : ℕ → Type 0 = λ x. has joined x ≡ true in
      subst Q w.is_code ((is.members w.vertex w.is_vertex).1 (joins w.vertex (w.is_vertex, subst P (sym w.is_code) h)))

  module _ (makers : Makers) where
    pub narrowed_within : JoinsEach board player around vertex → IsNarrowed board player around vertex makers makers
    narrowed_within joins = record {
      dead = ((λ t. (t, joins)), (λ both. both.0));
      cells = λ other. ((λ h. (h, λ w in_w. inl (joins w in_w))), (λ both. both.0));
    }

    pub narrowed_met : (cells met : ℕ) → met ≡ intersection makers.cells cells → ((n : ℕ) → has cells n ≡ (has joined n && ltb n CELLS))
        → IsExtent board.size.rows board.size.cols → ((n : ℕ) → has makers.cells n ≡ true → OnBoard board.size n)
        → (JoinsEach board player around vertex → ⊥)
        → IsNarrowed board player around vertex makers (record { is_dead = false; cells = met })
    narrowed_met cells met same cells_are extent on not = record {
      dead = ((λ t. absurd (false≢true t)), (λ both. absurd (not both.1)));
      cells = λ other. (
        (λ h.
            let k : has (intersection makers.cells cells) other ≡ true = rw same at h in
            let before : has makers.cells other ≡ true = has-intersection_left makers.cells cells other k in
            let here : has joined other ≡ true =
            first_of_both _ _ (sym (cells_are other) ∙ has-intersection_right makers.cells cells other k) in
            (before, λ w in_w. inr ((is.members (Of other) (on other before)).0 here))),
        (λ both. rw same (has-intersection_both makers.cells cells other both.0 (by_member cells other (λ h. h)
            (λ misses. absurd (not
            (λ w in_w. ⊎_elim (λ j. j) (λ j. absurd (false≢true (sym misses ∙ member other (on other both.0) j))) (both.1 w in_w))))))),
      );
    }
      where
        member : (n : ℕ) → OnBoard board.size n → Joined board player vertex (Of n) → has cells n ≡ true
        member n on_board j = cells_are n
            ∙ and_from _ _ ((is.members (Of n) on_board).1 j) (lt-ltb n 121 (on_board-small board.size n extent on_board))

-- ---- all open neighbours

module _ (board : Board) (player : Colour) (around : ℕ) (makers : Makers) where
  pub narrowed_none : AreNarrowed board player around around makers makers
  narrowed_none = record {
    dead = ((λ t. (t, λ v among out. absurd (false≢true (sym out ∙ among.1)))), (λ both. both.0));
    cells = λ other. ((λ h. (h, λ v among out. absurd (false≢true (sym out ∙ among.1)))), (λ both. both.0));
  }

  pub narrowed_more : IsExtent board.size.rows board.size.cols → (left : ℕ) (next : Vertex) (found after : Makers)
      → IsAmong board.size around next
      → AreNarrowed board player around left makers found → IsNarrowed board player around next found after
      → AreNarrowed board player around (remove left (code_of next)) makers after
  narrowed_more extent left next found after in_next before step = record {
    dead = (
      (λ t. let now = step.dead.0 t in let was = before.dead.0 now.0 in
          (was.0, with_next (λ v. JoinsEach board player around v) now.1 was.1)),
      (λ both. step.dead.1 (
        before.dead.1 (both.0, λ v among out. both.1 v among (removed_still left (code_of next) (code_of v) out)),
        both.1 next in_next (removed left (code_of next)),
      )),
    );
    cells = λ other. (
      (λ h. let now = (step.cells other).0 h in let was = (before.cells other).0 now.0 in
          (was.0, with_next (λ v. JoinsEachOr board player around other v) now.1 was.1)),
      (λ both. (step.cells other).1 (
        (before.cells other).1 (both.0, λ v among out. both.1 v among (removed_still left (code_of next) (code_of v) out)),
        both.1 next in_next (removed left (code_of next)),
      )),
    );
  }
    where
      with_next : (P : Vertex → Type 0) → P next → ((v : Vertex) → IsAmong board.size around v → has left (code_of v) ≡ false → P v)
          → (v : Vertex) → IsAmong board.size around v → has (remove left (code_of next)) (code_of v) ≡ false → P v
      with_next P here rest v among out = ⊎_elim
          (λ (same : code_of v ≡ code_of next). subst P (same_vertex board.size extent next v in_next.0 among.0 (sym same)) here)
          (λ still. rest v among still) (removed_cases left (code_of next) (code_of v) out)

  -- where no maker is left, the other open neighbours leave none either
  pub narrowed_enough : (left : ℕ) (found : Makers) → found.is_dead ≡ false → found.cells ≡ 0
      → AreNarrowed board player around left makers found
      → AreNarrowed board player around 0 makers found
  narrowed_enough left found not_dead none before = record {
    dead = (
      (λ t. absurd (false≢true (sym not_dead ∙ t))),
      (λ both. before.dead.1 (both.0, λ v among _. both.1 v among (has-empty (code_of v)))),
    );
    cells = λ other. (
      (λ h. absurd (false≢true (sym (has-empty other) ∙ (rw none at h)))),
      (λ both. (before.cells other).1 (both.0, λ v among _. both.1 v among (has-empty (code_of v)))),
    );
  }

-- ---- what that says of the cell

module _ (board : Board) (player : Colour) (cell around : ℕ) (is : IsSetOf board.size (IsOpenNeighbour board player cell) around)
    (empty : IsEmpty board cell) where
  open_ones : (v : Vertex) → IsAmong board.size around v ↔ IsOpenNeighbour board player cell v
  open_ones = among-open board player cell around is

  dead-joined : (vertex : Vertex) → IsDead board player cell → IsAmong board.size around vertex → JoinsEach board player around vertex
  dead-joined vertex dead among w in_w = dead.joined vertex w ((open_ones vertex).0 among) ((open_ones w).0 in_w)

  joined-dead : ((vertex : Vertex) → IsAmong board.size around vertex → JoinsEach board player around vertex) → IsDead board player cell
  joined-dead joins = record {
    empty = empty;
    joined = λ one other o p.
        joins one ((open_ones one).1 o) other ((open_ones other).1 p);
  }

  module _ (other : ℕ) where
    among_before : (v : Vertex) → IsOpenNeighbour (put board player other) player cell v → IsAmong board.size around v
    among_before v o = (open_ones v).1 (open_before board player other cell v o)

    among_after : (v : Vertex) → IsAmong board.size around v → IsOpenNeighbour (put board player other) player cell v
    among_after v among = open_after board player other cell v ((open_ones v).0 among)

    pub makes_dead : cell ≢ other → ((vertex : Vertex) → IsAmong board.size around vertex → JoinsEachOr board player around other vertex)
        → IsDead (put board player other) player cell
    makes_dead differ joins = record {
      empty = (empty-put board player other cell).1 (empty, differ);
      joined = λ one two o p. joined one two (among_before one o) (among_before two p);
    }
      where
        joined : (one two : Vertex) → IsAmong board.size around one → IsAmong board.size around two
            → Joined (put board player other) player one two
        joined one two in_one in_two =
            ⊎_elim (λ j. joined_still board player other one two j)
            (λ j. ⊎_elim (λ k. joined_still board player other one two (joined-sym board player two one k))
            (λ k. joined_over_stone board player other one two j (joined-sym board player two (Of other) k)) (joins two in_two one in_one))
            (joins one in_one two in_two)

    pub made_dead : IsDead (put board player other) player cell → (vertex : Vertex) → IsAmong board.size around vertex
        → JoinsEachOr board player around other vertex
    made_dead dead vertex among w in_w =
        ⊎_elim inl (λ both. inr both.0)
        (joined_before board player other vertex w (dead.joined vertex w (among_after vertex among) (among_after w in_w)))

  -- after a look at each open neighbour
  pub makers-are : (among : ℕ) (all makers : Makers) → IsTrue all.is_dead
      → ((n : ℕ) → (has all.cells n ≡ true) ↔ ((has among n ≡ true) × (IsEmpty board n × (n ≢ cell))))
      → AreNarrowed board player around 0 all makers → AreMakers board player cell among makers
  makers-are among all makers all_dead all_cells narrowed = record {
    dead = (
      (λ t. joined-dead (λ v in_v. (narrowed.dead.0 t).1 v in_v (has-empty (code_of v)))),
      (λ dead. narrowed.dead.1 (all_dead, λ v in_v _. dead-joined v dead in_v)),
    );
    cells = λ other. (
      (λ h. let found = (narrowed.cells other).0 h in let a = (all_cells other).0 found.0 in (
        a.0,
        record {
          empty = a.1.0;
          differ = a.1.1;
          dead =
              makes_dead other (λ e. a.1.1 (sym e)) (λ v in_v. found.1 v in_v (has-empty (code_of v)));
        },
      )),
      (λ both. (narrowed.cells other).1
          ((all_cells other).1 (both.0, (both.1.empty, both.1.differ)), λ v in_v _. made_dead other both.1.dead v in_v)),
    );
  }
