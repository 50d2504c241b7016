-- The line of a cell: the one that names a better cell, where some line is for the cell, and else one that leads to a
-- child.
use Rattle.std.proofs.Common.{◌≡◌, ℕ, ◌+◌, ◌<◌, ◌≤◌, List, [], ◌∷◌, ◌++◌, length, take, get_or, refl, sym, ap, ◌∙◌, subst, arith, ⊎_elim}
use Rattle.std.specs.Prelude.{Contains}
use Rattle.std.specs.List.{All}
use Rattle.std.proofs.lemmas.List.{map-append, take_more, take_all, length-map, get_or-map}
use Rattle.std.proofs.lemmas.List.Elements.{Contains-push_cases, All-contains}
use Rattle.hx_tree.specs.declared.nodes.Heading.{Heading}
use Rattle.hx_tree.specs.declared.nodes.Line.{Line}
use Rattle.hx_tree.specs.declared.nodes.Line.TheVariants.{Child, Under}
use Rattle.hx_tree.specs.Answers.{IsRightChild, cell_of, cells_of}
use Rattle.hx_nodes.specs.Lines.{NamesBetter, IsGathered, IsLineOf}

pub none_among-more : (lines : List Line) (i : ℕ) (line : Line) (cell : ℕ) → i < length lines → line ≡ get_or lines i line
    → ¬ Contains (cells_of (take i lines)) cell
    → ¬ (cell_of line ≡ cell) → ¬ Contains (cells_of (take (i + 1) lines)) cell
none_among-more lines i line cell less is none other found =
    let more : take (i + 1) lines ≡ take i lines ++ line ∷ [] = take_more lines i line less
    ∙ ap (λ (l : Line). take i lines ++ l ∷ []) (sym is) in
    let cells : cells_of (take (i + 1) lines) ≡ cells_of (take i lines) ++ cell_of line ∷ [] = ap cells_of more
    ∙ map-append cell_of (take i lines) (line ∷ []) in
    ⊎_elim none other (Contains-push_cases (cells_of (take i lines)) (cell_of line) cell
    (subst (λ (cs : List ℕ). Contains cs cell) cells found))

pub none_among-all : (lines : List Line) (i cell : ℕ) → length lines ≤ i → ¬ Contains (cells_of (take i lines)) cell
    → ¬ Contains (cells_of lines) cell
none_among-all lines i cell end none found =
    none (subst (λ (ls : List Line). Contains (cells_of ls) cell) (sym (take_all i lines end)) found)

contains-cell : (lines : List Line) (line : Line) → Contains lines line → Contains (cells_of lines) (cell_of line)
contains-cell lines line is =
    (is.0, omega (arith, is.1, length-map lines cell_of), get_or-map cell_of lines is.0 line (cell_of line) is.1 ∙ ap cell_of is.2)

-- the line of a cell that names a better one
pub line_by_better : (headings : List Heading) (heading : Heading) (under : List Line) (cell : ℕ) (line : Line) → All NamesBetter under
    → Contains under line
    → cell_of line ≡ cell → IsLineOf headings heading under cell line
line_by_better headings heading under cell line better among same = record {
  same_cell = same;
  gathered = gathered line among;
  by_child = λ none. absurd (none (subst (λ (n : ℕ). Contains (cells_of under) n) same (contains-cell under line among)));
}
  where
    gathered : (one : Line) → Contains under one → IsGathered headings heading under one
    gathered (Child at child) is = absurd (All-contains NamesBetter under (Child at child) better is)
    gathered (Under at other kill) is = is

-- the line of a cell that leads to a child
pub line_by_child : (headings : List Heading) (heading : Heading) (under : List Line) (cell child : ℕ)
    → IsRightChild headings heading cell child
    → IsLineOf headings heading under cell (Child cell child)
line_by_child headings heading under cell child right = record { same_cell = refl; gathered = right; by_child = λ none. (child, refl) }
