-- The cells of the order come one by one, and each that must be tried and is empty becomes a move. A cell that all
-- links of the other player's share must be tried unless it has a line, and the better cell of a line has none.
use Rattle.std.proofs.Common.{◌≡◌, ℕ, suc, ◌+◌, ◌<◌, ◌≤◌, true, List, [], ◌∷◌, ◌++◌, length, get_or, refl, sym, ap, ◌∙◌, subst}
use Rattle.std.proofs.Common.{◌⊎◌, inl, inr, ⊎_elim, arith}
use Rattle.std.specs.Prelude.{Contains, take, map}
use Rattle.std.specs.List.{All}
use Rattle.std.proofs.lemmas.Bool.{cases_eq}
use Rattle.std.proofs.lemmas.List.{take_more, take_all, map-append}
use Rattle.std.proofs.lemmas.List.Elements.{All-head, All-tail, Contains-push, Contains-push_cases, Contains-append_left}
use Rattle.std.proofs.lemmas.Map.Made.{Contains-tail}
use Rattle.hx_board.specs.declared.colours.Colour.{Colour}
use Rattle.hx_board.specs.Colours.{other_of}
use Rattle.hx_board.specs.Sets.{has}
use Rattle.hx_board.specs.Positions.{Board, IsEmpty}
use Rattle.hx_inferior.specs.declared.dominations.Kill.{Kill}
use Rattle.hx_inferior.specs.Inferior.{IsDominated}
use Rattle.hx_linkset.specs.States.{Standing}
use Rattle.hx_tree.specs.declared.nodes.Line.{Line}
use Rattle.hx_tree.specs.declared.nodes.Line.TheVariants.{Child as ByChild, Under}
use Rattle.hx_tree.specs.Answers.{cells_of}
use Rattle.hx_fill.specs.Musts.{IsMust}
use Rattle.hx_fill.specs.Unders.{IsUnderLine, HasLineFor}
use Rattle.hx_ordering.specs.declared.children.Child.{Child}
use Rattle.hx_ordering.specs.declared.situations.Situation.{Situation}
use Rattle.hx_ordering.specs.Orders.{AreEmptyCells}
use Rattle.hx_ordering.specs.Tries.{Tries, IsUnanswered, HasBetter}

none_in : (n : ℕ) → Contains {X = ℕ} [] n → ⊥
none_in n at = absurd (omega (arith, at.1))

-- ---- the moves, as they are gathered

-- each cell up to a place of the order that must be tried and is empty has its move
abbrev pub AreGathered : Board → ℕ → List ℕ → ℕ → List Child → Type 0
AreGathered filled tried order place children = (cell : ℕ) → Contains (take place order) cell → has tried cell ≡ true
    → IsEmpty filled cell → Tries children cell

pub gathered-none : (filled : Board) (tried : ℕ) (order : List ℕ) (children : List Child) → AreGathered filled tried order 0 children
gathered-none filled tried order children cell at = absurd (none_in cell at)

module _ (filled : Board) (tried : ℕ) (order : List ℕ) (place : ℕ) (children : List Child) (cell : ℕ) (low : place < length order)
    (there : cell ≡ get_or order place cell) (gathered : AreGathered filled tried order place children) where
  gathered-more : (more : List Child) → ((n : ℕ) → Tries children n → Tries more n)
      → (has tried cell ≡ true → IsEmpty filled cell → Tries more cell) → AreGathered filled tried order (place + 1) more
  gathered-more more kept here n at member empty =
      let longer : take (place + 1) order ≡ take place order ++ cell ∷ [] =
      take_more order place cell low ∙ ap (λ (last : ℕ). take place order ++ last ∷ []) (sym there) in
      ⊎_elim
      (λ before. kept n (gathered n before member empty))
      (λ (same : cell ≡ n). subst (λ (m : ℕ). has tried m ≡ true → IsEmpty filled m → Tries more m) same here member empty)
      (Contains-push_cases (take place order) cell n (subst (λ (cells : List ℕ). Contains cells n) longer at))

  pub gathered-passed : (has tried cell ≡ true → IsEmpty filled cell → ⊥) → AreGathered filled tried order (place + 1) children
  gathered-passed none = gathered-more children (λ n at. at) (λ member empty. absurd (none member empty))

  pub gathered-pushed : (child : Child) → child.cell ≡ cell → AreGathered filled tried order (place + 1) (children ++ child ∷ [])
  gathered-pushed child is =
      let cells : map (λ (each : Child). each.cell) (children ++ child ∷ []) ≡ map (λ (each : Child). each.cell) children ++ child.cell ∷ [] =
      map-append (λ (each : Child). each.cell) children (child ∷ []) in
      gathered-more (children ++ child ∷ [])
      (λ n at. subst (λ (all : List ℕ). Contains all n) (sym cells) (Contains-append_left _ (child.cell ∷ []) n at))
      (λ member empty. subst (λ (all : List ℕ). Contains all cell) (sym cells)
      (subst (λ (n : ℕ). Contains (map (λ (each : Child). each.cell) children ++ child.cell ∷ []) n) is
      (Contains-push (map (λ (each : Child). each.cell) children) child.cell)))

-- so has each cell of the whole order
abbrev pub AreTried : Board → ℕ → List ℕ → List Child → Type 0
AreTried filled tried order children = (cell : ℕ) → Contains order cell → has tried cell ≡ true → IsEmpty filled cell → Tries children cell

pub gathered-all : (filled : Board) (tried : ℕ) (order : List ℕ) (place : ℕ) (children : List Child) → length order ≤ place
    → AreGathered filled tried order place children → AreTried filled tried order children
gathered-all filled tried order place children all gathered cell at =
    gathered cell (subst (λ (cells : List ℕ). Contains cells cell) (sym (take_all place order all)) at)

-- ---- lines

contained_or_not : (xs : List ℕ) (n : ℕ) → Contains xs n ⊎ (Contains xs n → ⊥)
contained_or_not [] n = inr (none_in n)
contained_or_not (x ∷ xs) n = ⊎_elim
    (λ (same : x ≡ n). inl (0, omega arith, same))
    (λ differ. ⊎_elim
    (λ at. inl (suc at.0, omega (arith, at.1), at.2))
    (λ no. inr (λ at. no (Contains-tail x xs n differ at)))
    (contained_or_not xs n))
    (cases_eq x n)

-- the line for a cell
record HasUnder (board : Board) (mover : Colour) (lines : List Line) (cell : ℕ) : Type 0 where
  better : ℕ
  kill : Kill
  dominates : IsDominated board mover better cell kill
  line : Contains lines (Under cell better kill)

under-later : (board : Board) (mover : Colour) (line : Line) (lines : List Line) (cell : ℕ) → HasUnder board mover lines cell
    → HasUnder board mover (line ∷ lines) cell
under-later board mover line lines cell found = record {
  better = found.better;
  kill = found.kill;
  dominates = found.dominates;
  line = (suc found.line.0, omega (arith, found.line.1), found.line.2);
}

line_for : (board : Board) (mover : Colour) (lines : List Line) → All (IsUnderLine board mover) lines → (cell : ℕ) → HasLineFor lines cell
    → HasUnder board mover lines cell
line_for board mover [] right cell at = absurd (none_in cell at)
line_for board mover (ByChild of child ∷ lines) right cell at = absurd (All-head (IsUnderLine board mover) (ByChild of child) lines right)
line_for board mover (Under of better kill ∷ lines) right cell at = ⊎_elim
    (λ (same : of ≡ cell). subst (λ (n : ℕ). HasUnder board mover (Under of better kill ∷ lines) n) same (record {
      better = better;
      kill = kill;
      dominates = All-head (IsUnderLine board mover) (Under of better kill) lines right;
      line = (0, omega arith, refl);
    }))
    (λ differ. under-later board mover (Under of better kill) lines cell
    (line_for board mover lines (All-tail (IsUnderLine board mover) (Under of better kill) lines right) cell
    (Contains-tail of (cells_of lines) cell differ at)))
    (cases_eq of cell)

-- ---- what is tried in the end

module _ (own others : Standing) (situation : Situation) (order threats : List ℕ) (cells tried : ℕ) (under : List Line)
    (children : List Child) (must : IsMust others threats cells under)
    (kept : (cell : ℕ) → has cells cell ≡ true → (HasLineFor under cell → ⊥) → has tried cell ≡ true)
    (each : AreEmptyCells own.present.board order)
    (gathered : AreTried situation.filled tried order children) where
  tried-without_line : (cell : ℕ) → IsUnanswered own others situation cell → (HasLineFor under cell → ⊥) → Tries children cell
  tried-without_line cell is no_line =
      gathered cell ((each.each cell).1 is.own_empty) (kept cell ((must.shared cell).1 is.shared) no_line) is.empty

  pub tried-without_lines : under ≡ [] → (cell : ℕ) → IsUnanswered own others situation cell → Tries children cell
  tried-without_lines none cell is = tried-without_line cell is (λ at. none_in cell (subst (λ (lines : List Line). HasLineFor lines cell) none at))

  pub tried-or_better : (cell : ℕ) → IsUnanswered own others situation cell
      → Tries children cell ⊎ HasBetter own others situation children cell
  tried-or_better cell is = ⊎_elim
      (λ line. inr (better (line_for others.present.board (other_of others.player) under must.under_lines.right cell line)))
      (λ no_line. inl (tried-without_line cell is no_line))
      (contained_or_not (cells_of under) cell)
    where
      better : HasUnder others.present.board (other_of others.player) under cell → HasBetter own others situation children cell
      better found =
          let free = must.under_lines.betters found.better (record { worse = cell; kill = found.kill; line = found.line }) in
          record {
            better = found.better;
            kill = found.kill;
            dominates = found.dominates;
            shared = (must.shared found.better).0 free.0;
            tried = λ unanswered. tried-without_line found.better unanswered free.1;
          }
