-- Lines for dominated cells, one for each cell that got a better one. They are pushed cell by cell, so they come in
-- cell order.
use Rattle.std.proofs.Common.{◌≡◌, ◌≢◌, ℕ, ◌<◌, true, false, zero, suc, List, [], ◌∷◌, ◌++◌, map, length, get_or, refl, sym, ap, ◌∙◌, subst}
use Rattle.std.proofs.Common.{Some, None, ⊎_elim, arith}
use Rattle.std.specs.Prelude.{Contains}
use Rattle.std.specs.declared.option.Option.{Option}
use Rattle.std.proofs.lemmas.Bool.{false≢true, cases_lt, false_from_ne_true}
use Rattle.std.proofs.lemmas.List.{map-append, length-map}
use Rattle.std.proofs.lemmas.List.Elements.{All-nil, All-push, All-map, All-weaker, All-contains, Contains-push, Contains-push_cases}
use Rattle.std.proofs.lemmas.List.Elements.{Contains-append_left, Contains-get_or}
use Rattle.std.proofs.lemmas.Option.{same_Some}
use Rattle.hx_board.specs.declared.colours.Colour.{Colour}
use Rattle.hx_board.specs.Sets.{has, remove, difference}
use Rattle.hx_board.specs.Cells.{Extent, OnBoard, IsLeastOn}
use Rattle.hx_board.specs.Positions.{Board}
use Rattle.hx_board.proofs.SetLaws.{has-empty, has-remove_before, has-difference_left, has-difference_right, has-difference_both, removed}
use Rattle.hx_board.proofs.SetLaws.{removed_cases, by_member}
use Rattle.hx_inferior.specs.declared.dominations.Kill.{Kill}
use Rattle.hx_inferior.specs.Inferior.{IsDominated}
use Rattle.hx_tree.specs.declared.nodes.Line.{Line}
use Rattle.hx_tree.specs.declared.nodes.Line.TheVariants.{Child, Under}
use Rattle.hx_tree.specs.Answers.{cell_of, cells_of}
use Rattle.hx_tree.proofs.CellOrder.{increasing-push}
use Rattle.hx_fill.specs.declared.choices.Better.{Better}
use Rattle.hx_fill.specs.Unders.{IsUnderLine, HasLineFor, IsBetterIn, AreUnder, LeaveNoneDominated, ComesBefore, AreByOrder}
use Rattle.hx_fill.specs.Unders.{better_for, HasBetter, IsSifted}
use Rattle.hx_fill.specs.Unders.{AreGiven, AddsLine, IsLineFor, AreLinesFor}

-- an element of a mapped list is that of some element
mapped_from : (lines : List Line) (n : ℕ) → HasLineFor lines n → (line : Line) × (Contains lines line) × (cell_of line ≡ n)
mapped_from lines n found =
    (get_or lines found.0 default_line, Contains-get_or lines found.0 default_line low, sym (get_or-mapped lines found.0 low) ∙ found.2)
  where
    default_line : Line
    default_line = Child n 0

    low : found.0 < length lines
    low = rw length-map at found.1

    get_or-mapped : (xs : List Line) (k : ℕ) → k < length xs → get_or (map cell_of xs) k n ≡ cell_of (get_or xs k default_line)
    get_or-mapped [] k less = refl
    get_or-mapped (x ∷ xs) zero less = refl
    get_or-mapped (x ∷ xs) (suc k) less = get_or-mapped xs k (omega arith)

-- ---- the lines, one after the other

module _ (choices : List (Option Better)) (lined : ℕ) where
  pub lines_none : AreLinesFor choices lined lined []
  lines_none = record {
    each = All-nil (IsLineFor choices lined);
    in_order = λ k low. absurd (omega arith);
    before = λ done has_line. absurd (omega (arith, has_line.1));
    all = λ cell here out. absurd (false≢true (sym out ∙ here));
    left_inside = λ n h. h;
  }

  module _ (left cell : ℕ) (lines : List Line) (so_far : AreLinesFor choices lined left lines) (here : has left cell ≡ true)
      (least : (n : ℕ) → has left n ≡ true → n ≢ cell → cell < n) where
    not_removed : (n : ℕ) → has (remove left cell) n ≡ true → n ≢ cell
    not_removed n h same =
        false≢true (sym (removed left cell) ∙ (let P : ℕ → Type 0 = λ x. has (remove left cell) x ≡ true in subst P same h))

    pub lines_more : (better : ℕ) (kill : Kill) → better_for choices cell ≡ Some (record { cell = better; kill = kill })
        → AreLinesFor choices lined (remove left cell) (lines ++ Under cell better kill ∷ [])
    lines_more better kill is = record {
      each = All-push (IsLineFor choices lined) lines line so_far.each (so_far.left_inside cell here, is);
      in_order = rw pushed (increasing-push (cells_of lines) cell so_far.in_order (λ done has_line. so_far.before done has_line cell here));
      before = λ done has_line n h. ⊎_elim (λ old. so_far.before done old n (has-remove_before left cell n h))
          (λ (same : cell ≡ done). let P : ℕ → Type 0 = λ x. x < n in
          subst P same (least n (has-remove_before left cell n h) (not_removed n h)))
          (Contains-push_cases (cells_of lines) cell done (rw pushed at has_line));
      all = λ n in_lined out. ⊎_elim
          (λ (same : n ≡ cell). let P : ℕ → Type 0 = λ x. HasLineFor (lines ++ line ∷ []) x in
          subst P (sym same) (rw pushed (Contains-push (cells_of lines) cell)))
          (λ still. rw pushed (Contains-append_left (cells_of lines) (cell ∷ []) n (so_far.all n in_lined still)))
          (removed_cases left cell n out);
      left_inside = λ n h. so_far.left_inside n (has-remove_before left cell n h);
    }
      where
        line : Line
        line = Under cell better kill

        pushed : cells_of (lines ++ line ∷ []) ≡ cells_of lines ++ cell ∷ []
        pushed = map-append cell_of lines (line ∷ [])

  pub lines_all : (left : ℕ) (lines : List Line) → ((n : ℕ) → has lined n ≡ true → has left n ≡ false)
      → AreLinesFor choices lined left lines → AreLinesFor choices lined 0 lines
  lines_all left lines none so_far = record {
    each = so_far.each;
    in_order = so_far.in_order;
    before = λ done has_line n h. absurd (false≢true (sym (has-empty n) ∙ h));
    all = λ cell here _. so_far.all cell here (none cell here);
    left_inside = λ n h. absurd (false≢true (sym (has-empty n) ∙ h));
  }

  line_lined : (line : Line) → IsLineFor choices lined line → has lined (cell_of line) ≡ true
  line_lined (Child cell child) is = absurd is
  line_lined (Under cell better kill) is = is.0

  pub has_line-lined : (lines : List Line) → AreLinesFor choices lined 0 lines → (cell : ℕ) → HasLineFor lines cell → has lined cell ≡ true
  has_line-lined lines are cell has_line =
      let P : ℕ → Type 0 = λ n. has lined n ≡ true in
      All-contains P (cells_of lines) cell
      (All-map P cell_of lines
      (All-weaker (IsLineFor choices lined) (λ (line : Line). has lined (cell_of line) ≡ true) line_lined lines are.each)) has_line

same_line : (choices : List (Option Better)) (cell better other : ℕ) (kill how : Kill)
    → better_for choices cell ≡ Some (record { cell = better; kill = kill })
    → better_for choices cell ≡ Some (record { cell = other; kill = how }) → (better ≡ other) × (kill ≡ how)
same_line choices cell better other kill how one two =
    let x : Better = record { cell = better; kill = kill } in
    let y : Better = record { cell = other; kill = how } in
    let same : x ≡ y = same_Some x y (sym one ∙ two) in
    (ap (λ (b : Better). b.cell) same, ap (λ (b : Better). b.kill) same)

-- a cell that got no better one has no line to add
pub adds_none : (choices : List (Option Better)) (cell : ℕ) (lines : List Line) → better_for choices cell ≡ None
    → AddsLine choices cell lines lines
adds_none choices cell lines none better is = cc

pub adds_one : (choices : List (Option Better)) (cell : ℕ) (better : Better) → better_for choices cell ≡ Some better
    → (lines more : List Line)
    → more ≡ lines ++ Under cell better.cell better.kill ∷ [] → AddsLine choices cell lines more
adds_one choices cell better is lines more pushed other is_other =
    let P : Better → Type 0 = λ b. more ≡ lines ++ Under cell b.cell b.kill ∷ [] in
    subst P (same_Some better other (sym is ∙ is_other)) pushed

-- ---- the end

module _ (board : Board) (mover : Colour) (cells : ℕ) (order : List ℕ) (choices : List (Option Better)) (without_line waiting betters : ℕ)
    (lines : List Line)
    (sifted : IsSifted board mover cells order choices without_line waiting betters) (none_waits : (n : ℕ) → has waiting n ≡ false)
    (are : AreLinesFor choices (difference cells without_line) 0 lines) where
  abbrev with_line : ℕ
  with_line = difference cells without_line

  open_without : (cell : ℕ) → has cells cell ≡ true → ¬ HasLineFor lines cell → has without_line cell ≡ true
  open_without cell here no_line = by_member without_line cell (λ h. h)
      (λ out. absurd (no_line (are.all cell (has-difference_both cells without_line cell here out) (has-empty cell))))

  no_line : (cell : ℕ) → has without_line cell ≡ true → ¬ HasLineFor lines cell
  no_line cell h has_line =
      false≢true (sym (has-difference_right cells without_line cell (has_line-lined choices with_line lines are cell has_line)) ∙ h)

  -- the better cell of a line
  line_better : (worse better : ℕ) (kill : Kill) → IsLineFor choices with_line (Under worse better kill)
      → (h : HasBetter board mover order choices without_line betters worse)
      × ((h.better ≡ better) × (h.given.kill ≡ kill))
  line_better worse better kill is =
      let h = sifted.lined worse (has-difference_left cells without_line worse is.0) (has-difference_right cells without_line worse is.0) in
      let given = h.given in
      (h, same_line choices worse h.better better given.kill kill given.is is.1)

  line_right : (line : Line) → IsLineFor choices with_line line → IsUnderLine board mover line
  line_right (Child cell child) is = absurd is
  line_right (Under cell better kill) is =
      let w = line_better cell better kill is in
      let given = w.0.given in
      let P : ℕ → Type 0 = λ x. IsDominated board mover x cell given.kill in
      let Q : Kill → Type 0 = λ k. IsDominated board mover better cell k in
      subst Q w.1.1 (subst P w.1.0 given.dominates)

  contained : (line : Line) → Contains lines line → IsLineFor choices with_line line
  contained line at = All-contains (IsLineFor choices with_line) lines line are.each at

  -- a better cell of a cell with a line is one in a line
  named_in_line : (better worse : ℕ) (kill : Kill) (line : Line) → better_for choices worse ≡ Some (record { cell = better; kill = kill })
      → Contains lines line → IsLineFor choices with_line line → cell_of line ≡ worse → IsBetterIn lines better
  named_in_line better worse kill (Child cell child) named at is same = absurd is
  named_in_line better worse kill (Under cell other how) named at is same =
      let there : better_for choices cell ≡ Some (record { cell = better; kill = kill }) =
      (let P : ℕ → Type 0 = λ x. better_for choices x ≡ Some (record { cell = better; kill = kill }) in
      subst P (sym same) named) in
      let e = same_line choices cell other better how kill is.1 there in
      record { worse = cell; kill = how; line = (let P : ℕ → Type 0 = λ x. Contains lines (Under cell x how) in subst P e.0 at) }

  better_named : (better : ℕ) → has betters better ≡ true → IsBetterIn lines better
  better_named better h =
      let name = (sifted.named better h).1 in
      let from = mapped_from lines name.worse
      (are.all name.worse (has-difference_both cells without_line name.worse name.among name.lined) (has-empty name.worse)) in
      named_in_line better name.worse name.kill from.0 name.is from.1 (contained from.0 from.1) from.2

  pub sifted-under : AreUnder board mover cells lines
  sifted-under = record {
    right = All-weaker (IsLineFor choices with_line) (IsUnderLine board mover) line_right lines are.each;
    in_order = are.in_order;
    among = λ cell has_line. has-difference_left cells without_line cell (has_line-lined choices with_line lines are cell has_line);
    betters = λ cell named.
        let w = line_better named.worse cell named.kill (contained (Under named.worse cell named.kill) named.line) in
        let P : ℕ → Type 0 = λ x. has betters x ≡ true in
        let h : has without_line cell ≡ true = sifted.betters_inside cell (subst P w.1.0 w.0.among) in
        (sifted.inside cell h, no_line cell h);
  }

  pub sifted-none_dominated : LeaveNoneDominated board mover cells lines
  sifted-none_dominated cell here lacks_line no_better other both = sifted.settled cell (open_without cell here lacks_line)
      (false_from_ne_true _ (λ h. no_better (better_named cell h))) other (open_without other both.0 both.1, none_waits other)

  pub sifted-by_order : AreByOrder board mover cells order lines
  sifted-by_order = record {
    first = λ worse better kill at other all.
        let w = line_better worse better kill (contained (Under worse better kill) at) in
        let P : ℕ → Type 0 = λ x. ComesBefore order other x in
        w.0.first other (open_without other all.0 all.1, subst P (sym w.1.0) all.2);
    later = λ cell here lacks_line other all. sifted.later cell (open_without cell here lacks_line) other
        (open_without other all.0 all.1, none_waits other, all.2);
  }

-- each cell with a line got a better one
pub sifted-given : (board : Board) (mover : Colour) (cells : ℕ) (order : List ℕ) (choices : List (Option Better))
    (without_line waiting betters : ℕ)
    → IsSifted board mover cells order choices without_line waiting betters → AreGiven choices (difference cells without_line)
sifted-given board mover cells order choices without_line waiting betters sifted cell h =
    let has_better = sifted.lined cell (has-difference_left cells without_line cell h) (has-difference_right cells without_line cell h) in
    let given = has_better.given in
    (record { cell = has_better.better; kill = given.kill }, given.is)

pub least_below : (size : Extent) (left cell : ℕ) → IsLeastOn size left cell → (n : ℕ) → OnBoard size n → has left n ≡ true → n ≢ cell
    → cell < n
least_below size left cell least n on h differ =
    ⊎_elim (λ low. absurd (false≢true (sym (least.first n low on) ∙ h))) (λ high. omega arith) (cases_lt n cell)
