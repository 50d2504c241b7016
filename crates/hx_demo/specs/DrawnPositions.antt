-- The position that sixteen words draw.
use Rattle.std.specs.Prelude.{◌≡◌, ℕ, ◌%◌}
use Rattle.std.specs.Prelude.{List, [], ◌∷◌, ◌++◌, length, map, take, drop, slice_index, remove}
use Rattle.hx_board.specs.Cells.{Extent, index_of}
use Rattle.hx_board.specs.Positions.{Board}
use Rattle.hx_board.specs.Sets.{insert}

-- five rows and five columns
abbrev pub board_size : Extent
board_size = record { rows = 5; cols = 5 }

-- the cells of a row from the left
abbrev pub cells_of_row : ℕ → List ℕ
cells_of_row row = map (index_of row) (0 ∷ 1 ∷ 2 ∷ 3 ∷ 4 ∷ [])

-- the 25 cells in cell order
abbrev pub cells_in_order : List ℕ
cells_in_order = cells_of_row 0 ++ cells_of_row 1 ++ cells_of_row 2 ++ cells_of_row 3 ++ cells_of_row 4

-- the place in a list of cells that a word stands for
abbrev pub place_of : ℕ → List ℕ → ℕ
place_of word cells = word % length cells

-- the cells that words draw: for each word the cell at its place moves out of the list, which closes up
abbrev pub drawn_from : List ℕ → List ℕ → List ℕ
drawn_from cells [] = []
drawn_from cells (word ∷ words) =
    let place = place_of word cells in
    slice_index cells place ∷ drawn_from (remove cells place) words

-- the set of the cells in a list
abbrev pub set_of : List ℕ → ℕ
set_of [] = 0
set_of (cell ∷ cells) = insert (set_of cells) cell

-- the first eight cells get black stones, the next eight white ones
abbrev pub drawn_position : List ℕ → Board
drawn_position words =
    let cells = drawn_from cells_in_order words in
    record { size = board_size; black = set_of (take 8 cells); white = set_of (drop 8 cells) }

-- the position is the one that these words draw
abbrev pub Drawn : List ℕ → Board → Type 0
Drawn words position = position ≡ drawn_position words
