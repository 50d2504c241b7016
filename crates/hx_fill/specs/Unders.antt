-- Cells that a line says to be dominated.
use Rattle.std.specs.Prelude.{◌≡◌, ◌≢◌, ℕ, ◌<◌, ◌≤◌, true, false, List, [], ◌∷◌, ◌++◌, length, slice_get, slice_index}
use Rattle.std.specs.Prelude.{slice_index_or, ◌⊎◌, Contains}
use Rattle.std.specs.List.{All}
use Rattle.std.specs.List.Sorted.{IsStrictlyIncreasing}
use Rattle.hx_board.specs.declared.colours.Colour.{Colour}
use Rattle.std.specs.declared.option.Option.{Option}
use Rattle.std.specs.declared.option.Option.TheVariants.{None, Some}
use Rattle.hx_board.specs.declared.cells.TheConstants.{CELLS}
use Rattle.hx_board.specs.Sets.{has, remove, difference, IsSubset}
use Rattle.hx_board.specs.Positions.{Board, IsEmpty}
use Rattle.hx_inferior.specs.declared.dominations.Kill.{Kill}
use Rattle.hx_inferior.specs.Inferior.{IsDominated}
use Rattle.hx_tree.specs.declared.nodes.Line.{Line}
use Rattle.hx_tree.specs.declared.nodes.Line.TheVariants.{Child, Under}
use Rattle.hx_tree.specs.Answers.{cells_of}
use Rattle.hx_fill.specs.declared.choices.Better.{Better}

-- empty cells of the board
abbrev pub AreEmpties : Board → ℕ → Type 0
AreEmpties board cells = (cell : ℕ) → has cells cell ≡ true → IsEmpty board cell

-- a line that is right by domination, for this mover
abbrev pub IsUnderLine : Board → Colour → Line → Type 0
IsUnderLine board mover (Child cell child) = ⊥
IsUnderLine board mover (Under cell better kill) = IsDominated board mover better cell kill

-- some line is for the cell
abbrev pub HasLineFor : List Line → ℕ → Type 0
HasLineFor lines cell = Contains (cells_of lines) cell

-- a cell that some line names as the better one
pub record IsBetterIn (lines : List Line) (cell : ℕ) : Type 0 where
  pub worse : ℕ
  pub kill : Kill
  pub line : Contains lines (Under worse cell kill)

-- the cell is dominated by none of some cells
abbrev pub IsDominatedByNone : Board → Colour → ℕ → (ℕ → Type 0) → Type 0
IsDominatedByNone board mover cell IsIn = (better : ℕ) → IsIn better → (kill : Kill)
    → IsDominated board mover better cell kill → ⊥

-- right lines in cell order, for some of the cells. A better cell is one of these that has no line.
pub record AreUnder (board : Board) (mover : Colour) (cells : ℕ) (lines : List Line) : Type 0 where
  pub right : All (IsUnderLine board mover) lines
  pub in_order : IsStrictlyIncreasing (cells_of lines)
  pub among : (cell : ℕ) → HasLineFor lines cell → has cells cell ≡ true
  pub betters : (cell : ℕ) → IsBetterIn lines cell → (has cells cell ≡ true) × ¬ HasLineFor lines cell

-- a cell without a line that is no better cell is dominated by none of those without a line
abbrev pub LeaveNoneDominated : Board → Colour → ℕ → List Line → Type 0
LeaveNoneDominated board mover cells lines =
    (cell : ℕ) → has cells cell ≡ true → ¬ HasLineFor lines cell → ¬ IsBetterIn lines cell
    → IsDominatedByNone board mover cell (λ better. (has cells better ≡ true) × ¬ HasLineFor lines better)

-- one cell comes before another one: it stands at a place of the order up to which the other one does not stand; and
-- cells that the order leaves out come last, in cell order
pub data ComesBefore (order : List ℕ) (one other : ℕ) : Type 0 where
  Listed : (place : ℕ) → slice_get order place ≡ Some one → ((k : ℕ) → k ≤ place → slice_get order k ≢ Some other)
      → ComesBefore order one other
  Unlisted : ((k : ℕ) → slice_get order k ≢ Some one) → ((k : ℕ) → slice_get order k ≢ Some other) → one < other
      → ComesBefore order one other

-- the better cells were gone through in the order: of the cells without a line none that comes before the better cell
-- of a line dominates the line's cell, and none dominates one that comes after it
pub record AreByOrder (board : Board) (mover : Colour) (cells : ℕ) (order : List ℕ) (lines : List Line) : Type 0 where
  pub first : (worse better : ℕ) (kill : Kill) → Contains lines (Under worse better kill)
      → IsDominatedByNone board mover worse
      (λ other. (has cells other ≡ true) × (¬ HasLineFor lines other) × ComesBefore order other better)
  pub later : (cell : ℕ) → has cells cell ≡ true → ¬ HasLineFor lines cell
      → IsDominatedByNone board mover cell
      (λ other. (has cells other ≡ true) × (¬ HasLineFor lines other) × ComesBefore order other cell)

-- ---- words for the functions inside the crate alone

-- the set has each cell that dominates the worse one
abbrev pub AreKillers : Board → Colour → ℕ → ℕ → Type 0
AreKillers board mover worse killers = (better : ℕ) (kill : Kill) → IsDominated board mover better worse kill
    → has killers better ≡ true

-- the set of a cell has each cell that it dominates, of some cells but those that are left
pub record HoldDominated (board : Board) (mover : Colour) (cells left : ℕ) (sets : List ℕ) : Type 0 where
  pub count : length sets ≡ CELLS
  pub held : (better worse : ℕ) (kill : Kill) → has cells better ≡ true → has cells worse ≡ true
      → has left worse ≡ false
      → IsDominated board mover better worse kill → has (slice_index sets better) worse ≡ true

-- the better cell that a cell got
abbrev pub better_for : List (Option Better) → ℕ → Option Better
better_for choices cell = slice_index_or choices cell None

-- the cell got this better one, which dominates it
pub record IsGiven (board : Board) (mover : Colour) (better : ℕ) (choices : List (Option Better))
    (cell : ℕ) : Type 0 where
  pub kill : Kill
  pub dominates : IsDominated board mover better cell kill
  pub is : better_for choices cell ≡ Some (record { cell = better; kill = kill })

-- those of some cells, but for those that are left, that one dominates, and that got it as their better one
pub record AreKilled (board : Board) (mover : Colour) (better cells left : ℕ) (before after : List (Option Better))
    (killed : ℕ) : Type 0 where
  pub inside : IsSubset killed cells
  pub given : (cell : ℕ) → has killed cell ≡ true → IsGiven board mover better after cell
  pub same : (cell : ℕ) → has killed cell ≡ false → better_for after cell ≡ better_for before cell
  pub rest : (cell : ℕ) → has cells cell ≡ true → has left cell ≡ false → has killed cell ≡ false → (kill : Kill)
      → ¬ IsDominated board mover better cell kill

-- the better cells, with a further one if it killed some cell
pub record AreWithKiller (betters better killed after : ℕ) : Type 0 where
  pub before : IsSubset betters after
  pub further : (cell : ℕ) → has killed cell ≡ true → has after better ≡ true
  pub only : (n : ℕ) → has after n ≡ true
      → (has betters n ≡ true) ⊎ ((n ≡ better) × ((cell : ℕ) × (has killed cell ≡ true)))

-- a cell with a line: its better one is one of the better cells, and no cell without a line that comes before that one
-- dominates it
pub record HasBetter (board : Board) (mover : Colour) (order : List ℕ) (choices : List (Option Better))
    (without_line betters cell : ℕ) : Type 0 where
  pub better : ℕ
  pub given : IsGiven board mover better choices cell
  pub among : has betters better ≡ true
  pub first : IsDominatedByNone board mover cell
      (λ other. (has without_line other ≡ true) × ComesBefore order other better)

-- the better cell of some cell with a line
pub record IsNamed (cells : ℕ) (choices : List (Option Better)) (without_line better : ℕ) : Type 0 where
  pub worse : ℕ
  pub kill : Kill
  pub among : has cells worse ≡ true
  pub lined : has without_line worse ≡ false
  pub is : better_for choices worse ≡ Some (record { cell = better; kill = kill })

-- the choices, the cells without a line, those of them that did not come yet, and the better cells
pub record IsSifted (board : Board) (mover : Colour) (cells : ℕ) (order : List ℕ) (choices : List (Option Better))
    (without_line waiting betters : ℕ) : Type 0 where
  pub inside : IsSubset without_line cells
  pub waiting_inside : IsSubset waiting without_line
  pub betters_inside : IsSubset betters without_line
  pub lined : (cell : ℕ) → has cells cell ≡ true → has without_line cell ≡ false
      → HasBetter board mover order choices without_line betters cell
  pub named : (better : ℕ) → has betters better ≡ true
      → (has waiting better ≡ false) × IsNamed cells choices without_line better
  pub settled : (cell : ℕ) → has without_line cell ≡ true → has betters cell ≡ false
      → IsDominatedByNone board mover cell (λ other. (has without_line other ≡ true) × (has waiting other ≡ false))
  pub later : (cell : ℕ) → has without_line cell ≡ true
      → IsDominatedByNone board mover cell
      (λ other. (has without_line other ≡ true) × (has waiting other ≡ false) × ComesBefore order other cell)
  pub in_order : (cell other : ℕ) → has without_line cell ≡ true → has waiting cell ≡ false → has waiting other ≡ true
      → ¬ ComesBefore order other cell

-- no cell of the order up to a place is waiting
abbrev pub NoneWaits : List ℕ → ℕ → ℕ → Type 0
NoneWaits order count waiting = (k cell : ℕ) → k < count → slice_get order k ≡ Some cell → has waiting cell ≡ false

-- no cell that comes before the one is still waiting
abbrev pub IsNext : List ℕ → ℕ → ℕ → Type 0
IsNext order waiting cell = (other : ℕ) → has waiting other ≡ true → ¬ ComesBefore order other cell

-- the cells without a line are some of all, and those that wait are some of these
pub record AreSetsOf (cells without_line waiting : ℕ) : Type 0 where
  pub inside : IsSubset without_line cells
  pub waiting_inside : IsSubset waiting without_line

-- what became of the choices and the sets when a cell came
pub record Comes (board : Board) (mover : Colour) (better : ℕ) (before : List (Option Better))
    (without_line waiting betters : ℕ) (after : List (Option Better)) (without_next waiting_next betters_next : ℕ)
    : Type 0 where
  pub killed : ℕ
  pub kills : AreKilled board mover better (remove (difference without_line betters) better) 0 before after killed
  pub lines : without_next ≡ difference without_line killed
  pub waits : waiting_next ≡ remove (difference waiting killed) better
  pub grows : AreWithKiller betters better killed betters_next

-- each cell of a set got a better one
abbrev pub AreGiven : List (Option Better) → ℕ → Type 0
AreGiven choices lined = (cell : ℕ) → has lined cell ≡ true
    → (better : Better) × (better_for choices cell ≡ Some better)

-- the line with the better one of a cell was added
abbrev pub AddsLine : List (Option Better) → ℕ → List Line → List Line → Type 0
AddsLine choices cell lines more = (better : Better) → better_for choices cell ≡ Some better
    → more ≡ lines ++ Under cell better.cell better.kill ∷ []

-- a line of a cell in a set, with its better one
abbrev pub IsLineFor : List (Option Better) → ℕ → Line → Type 0
IsLineFor choices lined (Child cell child) = ⊥
IsLineFor choices lined (Under cell better kill) =
    (has lined cell ≡ true) × (better_for choices cell ≡ Some (record { cell = better; kill = kill }))

-- the lines of the cells in a set, but for those that are left
pub record AreLinesFor (choices : List (Option Better)) (lined left : ℕ) (lines : List Line) : Type 0 where
  pub each : All (IsLineFor choices lined) lines
  pub in_order : IsStrictlyIncreasing (cells_of lines)
  pub before : (done : ℕ) → HasLineFor lines done → (cell : ℕ) → has left cell ≡ true → done < cell
  pub all : (cell : ℕ) → has lined cell ≡ true → has left cell ≡ false → HasLineFor lines cell
  pub left_inside : IsSubset left lined
