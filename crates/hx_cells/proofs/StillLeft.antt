-- What is left in a loop over the members of a set lies in the set.
use Rattle.std.proofs.Common.{◌≡◌, ℕ, List, [], ◌∷◌, refl, ◌∙◌, subst}
use Rattle.std.specs.Iterator.{Yields}
use Rattle.hx_board.specs.declared.vertices.Vertex.{Vertex}
use Rattle.hx_board.specs.Sets.{IsSubset}
use Rattle.hx_board.specs.Cells.{Extent}
use Rattle.hx_board.proofs.SetLaws.{has-remove_before}
use Rattle.hx_cells.specs.CellsLeft.{CellsLeft, GivesCell}
use Rattle.hx_cells.specs.VerticesLeft.{GivesVertex}

-- some of the cells of a set are left, on a board of this size
pub record SomeLeft (extent : Extent) (set : ℕ) (left : CellsLeft) : Type 0 where
  pub size : left.size ≡ extent
  pub inside : IsSubset left.cells set

left-after : (cells : List ℕ) (first now : CellsLeft) → Yields GivesCell first cells now → SomeLeft first.size first.cells now
left-after [] first now same =
    subst (λ (other : CellsLeft). SomeLeft first.size first.cells other) same (record { size = refl; inside = λ n h. h })
left-after (cell ∷ cells) first now turn =
    let rest = left-after cells turn.0 now turn.2 in
    record {
      size = rest.size ∙ turn.1.size;
      inside = λ n h. has-remove_before first.cells cell n (rw turn.1.cells at rest.inside n h);
    }

pub cells-left : (size : Extent) (set : ℕ) (cells : List ℕ) {first now : CellsLeft} → first ≡ record { size = size; cells = set }
    → Yields GivesCell first cells now → SomeLeft size set now
cells-left size set cells {first} {now} starts yields =
    left-after cells (record { size = size; cells = set }) now
    (subst (λ (start : CellsLeft). Yields GivesCell start cells now) starts yields)

after-some : (vertices : List Vertex) (first now : ℕ) → Yields GivesVertex first vertices now → IsSubset now first
after-some [] first now same = rw same (λ n h. h)
after-some (vertex ∷ vertices) first now turn =
    let rest = after-some vertices turn.0 now turn.2 in
    λ n h. has-remove_before first _ n (rw turn.1.rest at rest n h)

pub vertices-left : (set : ℕ) (vertices : List Vertex) (now : ℕ) {first : ℕ} → first ≡ set → Yields GivesVertex first vertices now
    → IsSubset now set
vertices-left set vertices now {first} starts yields =
    after-some vertices set now (subst (λ (start : ℕ). Yields GivesVertex start vertices now) starts yields)
