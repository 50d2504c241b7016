-- The sets of what each cell can be better than, as a worse cell is written down with each cell that can be better than
-- it.
use Rattle.std.proofs.Common.{◌≡◌, ◌≢◌, ℕ, ◌<◌, true, false, List, length, slice_index, sym, ◌∙◌, subst, ⊎_elim}
use Rattle.std.proofs.Math.ListN.{set}
use Rattle.std.proofs.lemmas.Bool.{false≢true}
use Rattle.std.proofs.lemmas.Bool.Decides.{eqb_tells}
use Rattle.std.proofs.lemmas.List.{get_or-set_same, get_or-set_other, length-set}
use Rattle.hx_board.specs.declared.colours.Colour.{Colour}
use Rattle.hx_board.specs.declared.cells.TheConstants.{CELLS}
use Rattle.hx_board.specs.Sets.{has, insert, remove, intersection, IsSubset}
use Rattle.hx_board.specs.Cells.{OnBoard}
use Rattle.hx_board.specs.Positions.{Board}
use Rattle.hx_board.proofs.SetLaws.{has-insert_same, has-insert_other, has-intersection_both, removed_cases}
use Rattle.hx_inferior.specs.Inferior.{IsDominated}
use Rattle.hx_fill.specs.Unders.{AreKillers, HoldDominated}

-- ---- a cell added to some sets

-- the sets of some places but those that are left have the cell, and each set has what it had
pub record AreAdded (size : ℕ → Type 0) (places cell : ℕ) (before after : List ℕ) (left : ℕ) : Type 0 where
  pub count : length after ≡ CELLS
  pub kept : (n m : ℕ) → has (slice_index before n) m ≡ true → has (slice_index after n) m ≡ true
  pub added : (n : ℕ) → size n → has places n ≡ true → has left n ≡ false → has (slice_index after n) cell ≡ true

module _ (OnIt : ℕ → Type 0) (places cell : ℕ) (before : List ℕ) where
  pub added_none : length before ≡ CELLS → AreAdded OnIt places cell before before places
  added_none count = record { count = count; kept = λ n m h. h; added = λ n on here out. absurd (false≢true (sym out ∙ here)) }

  pub added_more : (after : List ℕ) (left place row : ℕ) → place < 121 → row ≡ slice_index after place
      → AreAdded OnIt places cell before after left
      → AreAdded OnIt places cell before (set after place (insert row cell)) (remove left place)
  added_more after left place row small is k = record {
    count = length-set after place (insert row cell) ∙ k.count;
    kept = λ n m h. ⊎_elim (λ t. here n m t.1 (k.kept n m h)) (λ t. there n m t.1 (k.kept n m h)) (eqb_tells n place);
    added = λ n on h out. ⊎_elim (λ (same : n ≡ place). new n same)
        (λ still. ⊎_elim (λ t. new n t.1) (λ t. there n cell t.1 (k.added n on h still)) (eqb_tells n place))
        (removed_cases left place n out);
  }
    where
      within : place < length after
      within = rw k.count small

      at_place : slice_index (set after place (insert row cell)) place ≡ insert row cell
      at_place = get_or-set_same after place (insert row cell) 0 within

      new : (n : ℕ) → n ≡ place → has (slice_index (set after place (insert row cell)) n) cell ≡ true
      new n same = rw (same, at_place) (has-insert_same row cell)

      here : (n m : ℕ) → n ≡ place → has (slice_index after n) m ≡ true → has (slice_index (set after place (insert row cell)) n) m ≡ true
      here n m same h = rw (same, at_place) (has-insert_other row cell m (rw (is, ← same) h))

      there : (n m : ℕ) → n ≢ place → has (slice_index after n) m ≡ true → has (slice_index (set after place (insert row cell)) n) m ≡ true
      there n m differ h = rw (get_or-set_other after place n (insert row cell) 0 differ) h

-- ---- all worse cells

module _ (board : Board) (mover : Colour) (cells : ℕ) where
  pub hold_none : (sets : List ℕ) → length sets ≡ CELLS → HoldDominated board mover cells cells sets
  hold_none sets count = record { count = count; held = λ better worse kill _ here out. absurd (false≢true (sym out ∙ here)) }

  pub hold_more : (left next killers places : ℕ) (sets more : List ℕ) → places ≡ intersection killers cells
      → AreKillers board mover next killers
      → length more ≡ CELLS → ((n m : ℕ) → has (slice_index sets n) m ≡ true → has (slice_index more n) m ≡ true)
      → ((n : ℕ) → OnBoard board.size n → has places n ≡ true → has (slice_index more n) next ≡ true)
      → HoldDominated board mover cells left sets → HoldDominated board mover cells (remove left next) more
  hold_more left next killers places sets more same are count kept added k = record {
    count = count;
    held = λ better worse kill in_cells here out dominated. ⊎_elim
        (λ (e : worse ≡ next). let P : ℕ → Type 0 = λ x. has (slice_index more better) x ≡ true in
        subst P (sym e) (added better dominated.better_empty.on_board (rw same (has-intersection_both killers cells better
        (let Q : ℕ → Type 0 = λ x. IsDominated board mover better x kill in are better kill (subst Q e dominated)) in_cells))))
        (λ still. kept better worse (k.held better worse kill in_cells here still dominated)) (removed_cases left next worse out);
  }

  pub hold_all : (left : ℕ) (sets : List ℕ) → ((n : ℕ) → has cells n ≡ true → has left n ≡ false)
      → HoldDominated board mover cells left sets
      → HoldDominated board mover cells 0 sets
  hold_all left sets none k =
      record {
        count = k.count;
        held = λ better worse kill in_cells here _ dominated.
            k.held better worse kill in_cells here (none worse here) dominated;
      }

  -- what holds for all cells holds for fewer
  pub hold_fewer : (fewer : ℕ) (sets : List ℕ) → IsSubset fewer cells → HoldDominated board mover cells 0 sets
      → HoldDominated board mover fewer 0 sets
  hold_fewer fewer sets inside k = record {
    count = k.count;
    held = λ better worse kill h here out dominated. k.held better worse kill (inside better h) (inside worse here) out dominated;
  }
