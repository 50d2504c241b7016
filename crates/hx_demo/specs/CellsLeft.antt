-- What is left of a list of cells after words have drawn from it, for the calls inside the crate alone.
use Rattle.std.specs.Prelude.{ℕ, List, [], ◌∷◌, remove}
use Rattle.hx_demo.specs.DrawnPositions.{place_of}

abbrev pub left_after : List ℕ → List ℕ → List ℕ
left_after cells [] = cells
left_after cells (word ∷ words) = left_after (remove cells (place_of word cells)) words
