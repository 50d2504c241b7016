-- How long the lines of a tree's text are, and how many nodes `check` accepts.
use Rattle.std.specs.Prelude.{ℕ, ◌≤◌, List, length, All}
use Rattle.hx_tree.specs.declared.checkers.TheConstants.{MOST_NODES}

-- the most nodes of a text that `check` accepts; the grammar allows more
abbrev pub most_nodes : ℕ
most_nodes = MOST_NODES

-- no line is longer: this is the line of an Or with the most parts, each of ten digits
abbrev pub longest_line : ℕ
longest_line = 1410

abbrev pub AreShortLines : List (List ℕ) → Type 0
AreShortLines lines = All (λ line. length line ≤ longest_line) lines
