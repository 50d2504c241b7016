-- Lines are gathered in cell order: those so far are of the cells that are not left, which come before those that are
-- left. So when no cell is left, there is a line for each cell, in cell order.
use Rattle.std.proofs.Common.{◌≡◌, ℕ, zero, suc, ◌<◌, true, false, List, [], ◌∷◌, ◌++◌, sym, ◌∙◌, arith, inl, inr, ⊎_elim}
use Rattle.std.specs.Prelude.{slice_get, IfSome}
use Rattle.std.proofs.lemmas.Bool.{false≢true}
use Rattle.std.proofs.lemmas.List.{map-append}
use Rattle.std.proofs.lemmas.List.Elements.{All-weaker, Contains-append_left, Contains-append_right}
use Rattle.hx_board.specs.Sets.{has, remove}
use Rattle.hx_board.specs.Cells.{Extent, OnBoard, IsLeastOn}
use Rattle.hx_board.proofs.SetLaws.{has-remove_before, removed, removed_cases, removed_still, rest-above_first}
use Rattle.hx_tree.specs.declared.nodes.Heading.{Heading}
use Rattle.hx_tree.specs.declared.nodes.Line.{Line}
use Rattle.hx_tree.specs.declared.nodes.Line.TheVariants.{Child, Under}
use Rattle.hx_tree.specs.Answers.{HasChild, cell_of, cells_of}
use Rattle.hx_tree.proofs.LinesInOrder.{in_order_more}
use Rattle.hx_board.proofs.ListLaws.{get-append}
use Rattle.hx_nodes.specs.Lines.{IsGathered, IsLineOf, IsDone, AreGathered, AreLines}

module _ (headings : List Heading) (heading : Heading) (cells : ℕ) (under : List Line) where
  not_done : (cell : ℕ) → IsDone cells cells cell → ⊥
  not_done cell is = false≢true (sym is.gone ∙ is.member)

  pub none_gathered : AreGathered headings heading cells cells under []
  none_gathered = record {
    inside = λ cell member. member;
    earlier = λ done cell is _. absurd (not_done done is);
    in_order = record {
      each = λ cell is. absurd (not_done cell is);
      only = λ k d less. absurd (omega arith);
      in_order = λ k less.
          absurd (omega arith);
    };
    each = λ k. tt;
    by_child = λ cell is none. absurd (not_done cell is);
  }

  pub all_gathered : (size : Extent) (left : ℕ) (lines : List Line) → AreGathered headings heading cells left under lines
      → ((n : ℕ) → has cells n ≡ true → OnBoard size n) → ((n : ℕ) → OnBoard size n → has left n ≡ false)
      → AreLines headings heading cells under lines
  all_gathered size left lines before on_board none =
      let done : (n : ℕ) → has cells n ≡ true → IsDone cells left n = λ n member.
      record { member = member; gone = none n (on_board n member) } in
      record {
        in_order = record {
          each = λ n member. before.in_order.each n (done n member);
          only = All-weaker (IsDone cells left) (λ n. has cells n ≡ true) (λ n is. is.member) (cells_of lines) before.in_order.only;
          in_order = before.in_order.in_order;
        };
        each = before.each;
        by_child = λ n member free. before.by_child n (done n member) free;
      }

  gathered-append : (more : List Heading) (line : Line) → IsGathered headings heading under line
      → IsGathered (headings ++ more) heading under line
  gathered-append more (Child cell child) right =
      get-append headings more child _ right
  gathered-append more (Under cell better kill) right = right

  gathered_all-append : (more : List Heading) (lines : List Line) (line : Line)
      → ((k : ℕ) → IfSome (slice_get lines k) (IsGathered headings heading under))
      → IsGathered (headings ++ more) heading under line → (k : ℕ)
      → IfSome (slice_get (lines ++ line ∷ []) k) (IsGathered (headings ++ more) heading under)
  gathered_all-append more [] line each last zero = last
  gathered_all-append more [] line each last (suc k) = tt
  gathered_all-append more (first ∷ lines) line each last zero = gathered-append more first (each 0)
  gathered_all-append more (first ∷ lines) line each last (suc k) = gathered_all-append more lines line (λ j. each (suc j)) last k

  child_before : (lines : List Line) (line : Line) (cell : ℕ) → HasChild lines cell → HasChild (lines ++ line ∷ []) cell
  child_before lines line cell has_child = (has_child.0, Contains-append_left lines (line ∷ []) (Child cell has_child.0) has_child.1)

  child_last : (lines : List Line) (line : Line) (cell child : ℕ) → line ≡ Child cell child → HasChild (lines ++ line ∷ []) cell
  child_last lines line cell child same = (child, Contains-append_right lines (line ∷ []) (Child cell child) (0, omega arith, same))

  -- the first cell that is left has its line
  pub one_more_gathered : (size : Extent) (more : List Heading) (left : ℕ) (lines : List Line) (cell : ℕ) (line : Line)
      → AreGathered headings heading cells left under lines → ((n : ℕ) → has cells n ≡ true → OnBoard size n) → IsLeastOn size left cell
      → IsLineOf (headings ++ more) heading under cell line
      → AreGathered (headings ++ more) heading cells (remove left cell) under (lines ++ line ∷ [])
  one_more_gathered size more left lines cell line before on_board least is_line = record {
    inside = λ n member. before.inside n (has-remove_before left cell n member);
    earlier = λ done n is member. ⊎_elim
        (λ same. rw same (later n member))
        (λ gone. before.earlier done n (record { member = is.member; gone = gone }) (has-remove_before left cell n member))
        (removed_cases left cell done is.gone);
    in_order = rw (map-append cell_of lines (line ∷ []), is_line.same_cell)
        (in_order_more (IsDone cells left) (IsDone cells (remove left cell)) (cells_of lines) cell before.in_order
        (λ n is. before.earlier n cell is least.member)
        (λ n is. ⊎_elim inl (λ gone. inr (record { member = is.member; gone = gone })) (removed_cases left cell n is.gone))
        (λ n is. record { member = is.member; gone = removed_still left cell n is.gone })
        (record { member = before.inside cell least.member; gone = removed left cell }));
    each = gathered_all-append more lines line before.each is_line.gathered;
    by_child = λ n is free. ⊎_elim
        (λ same. let here = is_line.by_child (rw same at free) in
        rw same (child_last lines line cell here.0 here.1))
        (λ gone. child_before lines line n (before.by_child n (record { member = is.member; gone = gone }) free))
        (removed_cases left cell n is.gone);
  }
    where
      later : (n : ℕ) → has (remove left cell) n ≡ true → cell < n
      later = rest-above_first left cell
          (λ n less member. false≢true (sym (least.first n less (on_board n (before.inside n member))) ∙ member))
