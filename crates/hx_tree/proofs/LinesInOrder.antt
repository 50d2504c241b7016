-- The lines of a node, made one by one in cell order: the cells of the lines so far are the empty cells that are not
-- left, and they come before those that are left. So when no cell is left, there is a line for each empty cell, in cell
-- order. For programs that answer each move of the opponent by a child.
use Rattle.std.proofs.Common.{◌≡◌, ℕ, zero, suc, ◌+◌, ◌<◌, ◌≤◌, true, false, List, [], ◌∷◌, ◌++◌, length, refl, sym, ◌∙◌, arith, ◌⊎◌, inl}
use Rattle.std.proofs.Common.{inr, ⊎_elim, ◌↔◌, length-append, Option, Some, None}
use Rattle.std.specs.Prelude.{slice_get, IfSome}
use Rattle.std.proofs.lemmas.Bool.{false≢true}
use Rattle.std.proofs.lemmas.List.{map-append}
use Rattle.std.proofs.lemmas.List.Elements.{All-contains, All-push, All-weaker, Contains-append_left, Contains-append_right}
use Rattle.hx_board.specs.Colours.{other_of}
use Rattle.hx_board.specs.Sets.{has, remove, count_below}
use Rattle.hx_board.specs.Cells.{OnBoard, IsLeastOn}
use Rattle.hx_board.specs.Positions.{Board, IsBoard, IsEmpty}
use Rattle.hx_board.specs.Counts.{empty_count}
use Rattle.hx_board.proofs.SetLaws.{has-remove_before, removed, removed_cases, removed_still, rest-above_first}
use Rattle.hx_board.proofs.CellLaws.{on_board-small}
use Rattle.hx_board.proofs.ListLaws.{get-append}
use Rattle.hx_board.proofs.Tallies.{count_below-remove}
use Rattle.hx_tree.specs.declared.nodes.Heading.{Heading}
use Rattle.hx_tree.specs.declared.nodes.Line.{Line}
use Rattle.hx_tree.specs.declared.nodes.Line.TheVariants.{Child, Under}
use Rattle.hx_tree.specs.Answers.{AreInOrder, IsToAnswer, IsRightChild, IsRightLine, IsRightAll, cell_of, cells_of}
use Rattle.hx_tree.proofs.CellOrder.{increasing-push, same_kind}

-- ---- one cell more in order

module _ (Fact Next : ℕ → Type 0) (cells : List ℕ) (cell : ℕ) (before : AreInOrder Fact cells) (later : (n : ℕ) → Fact n → n < cell) where
  pub in_order_more : ((n : ℕ) → Next n → (n ≡ cell) ⊎ Fact n) → ((n : ℕ) → Fact n → Next n) → Next cell
      → AreInOrder Next (cells ++ cell ∷ [])
  in_order_more cases keeps here = record {
    each = λ n next. ⊎_elim
        (λ same. Contains-append_right cells (cell ∷ []) n (0, omega arith, sym same))
        (λ was. Contains-append_left cells (cell ∷ []) n (before.each n was)) (cases n next);
    only = All-push Next cells cell (All-weaker Fact Next keeps cells before.only) here;
    in_order = increasing-push cells cell before.in_order (λ n contains. later n (All-contains Fact cells n before.only contains));
  }

-- ---- the lines so far

-- an empty cell that is not left
abbrev pub IsDone : Board → ℕ → ℕ → Type 0
IsDone board left cell = IsEmpty board cell × (has left cell ≡ false)

-- a line with a right child
abbrev pub IsRightChildLine : List Heading → Heading → Line → Type 0
IsRightChildLine headings heading (Child cell child) = IsRightChild headings heading cell child
IsRightChildLine headings heading (Under cell better kill) = ⊥

-- the lines so far answer the empty cells that are not left, in cell order, each by a right child
pub record AreAnsweredSoFar (headings : List Heading) (heading : Heading) (left : ℕ) (lines : List Line) : Type 0 where
  pub inside : (cell : ℕ) → has left cell ≡ true → IsEmpty heading.position cell
  pub earlier : (done cell : ℕ) → IsDone heading.position left done → has left cell ≡ true → done < cell
  pub in_order : AreInOrder (IsDone heading.position left) (cells_of lines)
  pub lines_right : (k : ℕ) → IfSome (slice_get lines k) (IsRightChildLine headings heading)
  pub count : length lines + count_below 128 left ≡ empty_count heading.position

-- before the first line all empty cells are left
pub none_answered : (headings : List Heading) (heading : Heading) (left : ℕ)
    → ((cell : ℕ) → (has left cell ≡ true) ↔ IsEmpty heading.position cell)
    → count_below 128 left ≡ empty_count heading.position → AreAnsweredSoFar headings heading left []
none_answered headings heading left is_left count = record {
  inside = λ cell member. (is_left cell).0 member;
  earlier = λ done cell is _. absurd (not_done done is);
  in_order = record {
    each = λ cell is. absurd (not_done cell is);
    only = λ k d less. absurd (omega arith);
    in_order = λ k less.
        absurd (omega arith);
  };
  lines_right = λ k. tt;
  count = omega arith;
}
  where
    not_done : (cell : ℕ) → IsDone heading.position left cell → ⊥
    not_done cell is = false≢true (sym is.1 ∙ (is_left cell).1 is.0)

right_line-append : (headings more : List Heading) (heading : Heading) (line : Line) → IsRightChildLine headings heading line
    → IsRightChildLine (headings ++ more) heading line
right_line-append headings more heading (Child cell child) right = get-append headings more child _ right
right_line-append headings more heading (Under cell better kill) right = absurd right

right_lines-append : (headings more : List Heading) (heading : Heading) (lines : List Line) (line : Line)
    → ((k : ℕ) → IfSome (slice_get lines k) (IsRightChildLine headings heading)) → IsRightChildLine (headings ++ more) heading line
    → (k : ℕ) → IfSome (slice_get (lines ++ line ∷ []) k) (IsRightChildLine (headings ++ more) heading)
right_lines-append headings more heading [] line right last zero = last
right_lines-append headings more heading [] line right last (suc k) = tt
right_lines-append headings more heading (first ∷ lines) line right last zero = right_line-append headings more heading first (right 0)
right_lines-append headings more heading (first ∷ lines) line right last (suc k) =
    right_lines-append headings more heading lines line (λ j. right (suc j)) last k

-- the first cell that is left is answered, after some headings more
pub one_more_answered : (headings more : List Heading) (heading : Heading) (left : ℕ) (lines : List Line) (cell child : ℕ)
    → IsBoard heading.position → AreAnsweredSoFar headings heading left lines → IsLeastOn heading.position.size left cell
    → IsRightChild (headings ++ more) heading cell child
    → AreAnsweredSoFar (headings ++ more) heading (remove left cell) (lines ++ Child cell child ∷ [])
one_more_answered headings more heading left lines cell child valid before least leads = record {
  inside = λ n member. before.inside n (has-remove_before left cell n member);
  earlier = λ done n is member. ⊎_elim
      (λ same. rw same (later n member)) (λ gone. before.earlier done n (is.0, gone) (has-remove_before left cell n member))
      (removed_cases left cell done is.1);
  in_order = rw (map-append cell_of lines (Child cell child ∷ []))
      (in_order_more (IsDone heading.position left) (IsDone heading.position (remove left cell)) (cells_of lines) cell before.in_order
      (λ n is. before.earlier n cell is least.member)
      (λ n is. ⊎_elim inl (λ gone. inr (is.0, gone)) (removed_cases left cell n is.1))
      (λ n is. (is.0, removed_still left cell n is.1))
      (before.inside cell least.member, removed left cell));
  lines_right = right_lines-append headings more heading lines (Child cell child) before.lines_right leads;
  count =
      let small : cell < 121 = on_board-small heading.position.size cell valid.0 least.on_board in
      omega (arith, before.count, length-append lines (Child cell child ∷ []), count_below-remove 128 left cell least.member (omega arith));
}
  where
    later : (n : ℕ) → has (remove left cell) n ≡ true → cell < n
    later = rest-above_first left cell (λ n less member. false≢true (sym (least.first n less (before.inside n member).on_board) ∙ member))

-- while a cell is left, fewer are answered than were empty
pub fewer_answered : (headings : List Heading) (heading : Heading) (left : ℕ) (lines : List Line) (cell : ℕ) → IsBoard heading.position
    → AreAnsweredSoFar headings heading left lines → IsLeastOn heading.position.size left cell
    → length lines + 1 ≤ empty_count heading.position
fewer_answered headings heading left lines cell valid before least =
    let small : cell < 121 = on_board-small heading.position.size cell valid.0 least.on_board in
    omega (arith, before.count, count_below-remove 128 left cell least.member (omega arith))

-- when no cell is left, each empty cell is answered
pub all_answered : (headings : List Heading) (heading : Heading) (left : ℕ) (lines : List Line)
    → AreAnsweredSoFar headings heading left lines → ((n : ℕ) → OnBoard heading.position.size n → has left n ≡ false)
    → AreInOrder (IsEmpty heading.position) (cells_of lines)
all_answered headings heading left lines before none = record {
  each = λ cell empty. before.in_order.each cell (empty, none cell empty.on_board);
  only = λ k d less. (before.in_order.only k d less).0;
  in_order = before.in_order.in_order;
}

-- ---- a node of lines alone

-- where there is no threat, each empty cell is to be answered
all_to_answer : (board : Board) (cell : ℕ) → IsEmpty board cell ↔ IsToAnswer board [] [] cell
all_to_answer board cell = (λ empty. record { empty = empty; shared = λ k. tt }, λ is. is.empty)

child_line_right : (headings : List Heading) (heading : Heading) (lines : List Line) (line : Option Line)
    → IfSome line (IsRightChildLine headings heading) → IfSome line (IsRightLine headings heading [] [] lines)
child_line_right headings heading lines None right = tt
child_line_right headings heading lines (Some (Child cell child)) right = right
child_line_right headings heading lines (Some (Under cell better kill)) right = absurd right

-- lines for all moves need no steps and no threats
pub right_by_lines : (headings : List Heading) (heading : Heading) (lines : List Line) (some : ℕ)
    → heading.to_move ≡ other_of heading.winner → IsEmpty heading.position some → AreInOrder (IsEmpty heading.position) (cells_of lines)
    → ((k : ℕ) → IfSome (slice_get lines k) (IsRightChildLine headings heading)) → IsRightAll headings heading [] [] lines
right_by_lines headings heading lines some mover empty in_order right = record {
  mover = mover;
  some = some;
  some_empty = empty;
  links = [];
  steps_right = record { few = omega arith; right = refl };
  threats_right = record { few = omega arith; each = λ k. tt };
  cells = same_kind (IsEmpty heading.position) (IsToAnswer heading.position [] []) (cells_of lines)
      (all_to_answer heading.position) in_order;
  lines_right = λ k. child_line_right headings heading lines (slice_get lines k) (right k);
}
