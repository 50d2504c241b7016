-- Who takes the first cell of a set again and again, and goes on with the others, comes to each of its cells once, in
-- rising order.
use Rattle.std.proofs.Common.{◌≡◌, ℕ, zero, suc, ◌+◌, ◌<◌, false, List, [], ◌∷◌, get_or, sym, ◌∙◌, ap, subst, ⊎_elim, arith}
use Rattle.std.proofs.lemmas.Bool.{false≢true, cases_lt, cases_eq}
use Rattle.std.specs.Prelude.{All}
use Rattle.std.specs.Iterator.{Drains}
use Rattle.std.specs.List.Sorted.{IsStrictlyIncreasing}
use Rattle.hx_board.specs.Sets.{has, remove}
use Rattle.hx_board.specs.Cells.{Extent, OnBoard, IsLeastOn}
use Rattle.hx_board.proofs.SetLaws.{removed, has-remove_before, has-remove_other}
use Rattle.hx_cells.specs.CellsLeft.{CellsLeft, IsCellOf, NoneLeft, AreCells, GivesCell}

-- what is left after the first cell lies after it
later : (size : Extent) (set cell other : ℕ) → IsLeastOn size set cell → IsCellOf size (remove set cell) other → cell < other
later size set cell other least is = ⊎_elim
    (λ before.
    absurd (false≢true (sym (least.first other before is.on_board) ∙ has-remove_before set cell other is.member)))
    (λ not_before. ⊎_elim
    (λ same. absurd (false≢true (sym (removed set cell) ∙ (ap (λ x. has (remove set cell) x) (sym same) ∙ is.member))))
    (λ differ. omega (arith, not_before, differ))
    (cases_eq other cell))
    (cases_lt other cell)

none_listed : (size : Extent) (set : ℕ) → ((cell : ℕ) → OnBoard size cell → has set cell ≡ false) → AreCells size set []
none_listed size set none = record {
  rising = λ k lt. absurd (omega arith);
  each = λ k d lt. absurd (omega arith);
  all = λ cell is. absurd (false≢true (sym (none cell is.on_board) ∙ is.member));
}

rising_on : (size : Extent) (set cell : ℕ) (rest : List ℕ) → IsLeastOn size set cell → AreCells size (remove set cell) rest
    → IsStrictlyIncreasing (cell ∷ rest)
rising_on size set cell rest least are zero lt =
    later size set cell (get_or rest 0 0) least (are.each 0 0 (omega arith))
rising_on size set cell rest least are (suc k) lt =
    let one : suc k + 1 ≡ suc (k + 1) = omega arith in
    rw one (are.rising k (omega arith))

each_on : (size : Extent) (set cell : ℕ) (rest : List ℕ) → IsLeastOn size set cell → AreCells size (remove set cell) rest
    → All (IsCellOf size set) (cell ∷ rest)
each_on size set cell rest least are zero d lt = record { on_board = least.on_board; member = least.member }
each_on size set cell rest least are (suc k) d lt =
    let is = are.each k d (omega arith) in
    record { on_board = is.on_board; member = has-remove_before set cell _ is.member }

one_more : (size : Extent) (set cell : ℕ) (rest : List ℕ) → IsLeastOn size set cell → AreCells size (remove set cell) rest
    → AreCells size set (cell ∷ rest)
one_more size set cell rest least are = record {
  rising = rising_on size set cell rest least are;
  each = each_on size set cell rest least are;
  all = λ other is. ⊎_elim
      (λ same. (0, omega arith, sym same))
      (λ differ.
      let place = are.all other (record { on_board = is.on_board; member = has-remove_other set cell other differ is.member }) in
      (suc place.0, omega (arith, place.1), place.2))
      (cases_eq other cell);
}

pub comes-once : (left : CellsLeft) (cells : List ℕ) → Drains GivesCell left cells → AreCells left.size left.cells cells
comes-once left [] drains =
    let none = subst (λ (now : CellsLeft). NoneLeft now drains.0) (sym drains.1.1) drains.1.2 in
    none_listed left.size left.cells none.none
comes-once left (cell ∷ rest) drains =
    let turn = drains.1.1 in
    let comes = turn.1 in
    let others = comes-once turn.0 rest (drains.0, (drains.1.0, turn.2, drains.1.2)) in
    one_more left.size left.cells cell rest comes.least (rw (comes.size, comes.cells) at others)
