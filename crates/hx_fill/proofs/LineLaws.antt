-- The cells of a set that have no line, as one line after the other is looked at.
use Rattle.std.proofs.Common.{◌≡◌, ℕ, ◌+◌, ◌<◌, true, List, [], ◌∷◌, ◌++◌, length, take, get_or, sym, ap, ◌∙◌, subst, arith}
use Rattle.std.specs.Prelude.{Contains}
use Rattle.std.proofs.lemmas.List.{map-append, take_more}
use Rattle.std.proofs.lemmas.List.Elements.{Contains-append_left, Contains-append_right}
use Rattle.hx_board.specs.Sets.{has, remove, IsSubset}
use Rattle.hx_board.proofs.SetLaws.{has-remove_before, has-remove_other}
use Rattle.hx_tree.specs.declared.nodes.Line.{Line}
use Rattle.hx_tree.specs.Answers.{cell_of, cells_of}

-- the cells of a set but for those of these lines
pub record AreWithout (cells left : ℕ) (lines : List Line) : Type 0 where
  pub inside : IsSubset left cells
  pub kept : (cell : ℕ) → has cells cell ≡ true → ¬ Contains (cells_of lines) cell → has left cell ≡ true

pub one_line-more : (cells left i : ℕ) (lines : List Line) (line : Line) → i < length lines → line ≡ get_or lines i line
    → AreWithout cells left (take i lines) → AreWithout cells (remove left (cell_of line)) (take (i + 1) lines)
one_line-more cells left i lines line less is before =
    let more : take (i + 1) lines ≡ take i lines ++ line ∷ [] =
    take_more lines i line less ∙ ap (λ (l : Line). take i lines ++ l ∷ []) (sym is) in
    let split : cells_of (take (i + 1) lines) ≡ cells_of (take i lines) ++ cell_of line ∷ [] =
    ap cells_of more ∙ map-append cell_of (take i lines) (line ∷ []) in
    let among : (cell : ℕ) → Contains (cells_of (take i lines) ++ cell_of line ∷ []) cell → Contains (cells_of (take (i + 1) lines)) cell =
    λ cell found. subst (λ (cs : List ℕ). Contains cs cell) (sym split) found in
    record {
      inside = λ cell member. before.inside cell (has-remove_before left (cell_of line) cell member);
      kept = λ cell member none. has-remove_other left (cell_of line) cell
          (λ same. none (among cell (Contains-append_right (cells_of (take i lines)) (cell_of line ∷ []) cell (0, omega arith, sym same))))
          (before.kept cell member
          (λ found. none (among cell (Contains-append_left (cells_of (take i lines)) (cell_of line ∷ []) cell found))));
    }
