-- The laws of sets of vertices: each call gives a set of vertices again, and a member of the set of a board's vertices
-- is one.
use Rattle.std.proofs.Common.{◌≡◌, ℕ, ◌<◌, true, refl, sym, ap, ◌∙◌, subst, arith, ⊎_elim}
use Rattle.std.proofs.lemmas.Bool.{false≢true}
use Rattle.hx_board.specs.declared.vertices.Vertex.{Vertex}
use Rattle.hx_board.specs.declared.vertices.Vertex.TheVariants.{Of, First, Last}
use Rattle.hx_board.specs.Sets.{has, insert, union}
use Rattle.hx_board.specs.Cells.{Extent, IsExtent, OnBoard}
use Rattle.hx_board.specs.Graph.{IsVertex}
use Rattle.hx_board.specs.VertexSets.{code_of, AreVertexCodes, IsSomeVertex, IsVertexCode}
use Rattle.hx_board.proofs.SetLaws.{has-empty, has-insert_cases, has-union_cases}
use Rattle.hx_board.proofs.CellLaws.{on_board-small}

-- ---- the code of a vertex

pub some-vertex : (size : Extent) → IsExtent size.rows size.cols → (v : Vertex) → IsVertex size v → IsSomeVertex v
some-vertex size extent (Of n) is = on_board-small size n extent is
some-vertex size extent First is = tt
some-vertex size extent Last is = tt

pub code-small : (v : Vertex) → IsSomeVertex v → code_of v < 123
code-small (Of n) some = omega arith
code-small First some = omega arith
code-small Last some = omega arith

-- different vertices have different codes
pub code-same : (v w : Vertex) → IsSomeVertex v → IsSomeVertex w → code_of v ≡ code_of w → v ≡ w
code-same (Of n) (Of m) h k e = ap Of e
code-same (Of n) First h k e = absurd (omega arith)
code-same (Of n) Last h k e = absurd (omega arith)
code-same First (Of m) h k e = absurd (omega arith)
code-same First First h k e = refl
code-same First Last h k e = absurd (omega arith)
code-same Last (Of m) h k e = absurd (omega arith)
code-same Last First h k e = absurd (omega arith)
code-same Last Last h k e = refl

-- ---- sets of codes

pub empty-codes : AreVertexCodes 0
empty-codes n h = absurd (false≢true (sym (has-empty n) ∙ h))

pub insert-codes : (set code : ℕ) → AreVertexCodes set → code < 123 → AreVertexCodes (insert set code)
insert-codes set code are small n h =
    ⊎_elim (λ (e : n ≡ code). let P : ℕ → Type 0 = λ x. x < 123 in subst P (sym e) small) (are n) (has-insert_cases set code n h)

pub union-codes : (set other : ℕ) → AreVertexCodes set → AreVertexCodes other → AreVertexCodes (union set other)
union-codes set other are others n h = ⊎_elim (are n) (others n) (has-union_cases set other n h)

-- a set of cells of a board
pub cells-small : (size : Extent) (set : ℕ) → IsExtent size.rows size.cols → ((n : ℕ) → has set n ≡ true → OnBoard size n)
    → AreVertexCodes set
cells-small size set extent cells n h = let small : n < 121 = on_board-small size n extent (cells n h) in omega arith

-- a vertex of some board whose code is that of a vertex of this board is that vertex
same_code : (size : Extent) (v w : Vertex) → IsVertex size v → IsSomeVertex w → code_of v ≡ code_of w → IsVertex size w
same_code size (Of n) (Of m) is some e = let P : ℕ → Type 0 = λ x. OnBoard size x in subst P e is
same_code size First (Of m) is some e = absurd (omega (arith, some, e))
same_code size Last (Of m) is some e = absurd (omega (arith, some, e))
same_code size v First is some e = tt
same_code size v Last is some e = tt

pub code-vertex : (size : Extent) (v : Vertex) → IsVertexCode size (code_of v) → IsSomeVertex v → IsVertex size v
code-vertex size v w some = same_code size w.vertex v w.is_vertex some w.is_code
