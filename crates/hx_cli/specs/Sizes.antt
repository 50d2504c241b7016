-- How the size of a board is spelled, before options.
use Rattle.std.specs.Prelude.{◌≡◌, ℕ, List, ◌∷◌}
use Rattle.hx_board.specs.Cells.{Extent, IsExtent}
use Rattle.hx_limits.specs.declared.settings.Settings.{Settings}
use Rattle.hx_cli.specs.Options.{IsValue, AreOptions}

-- the two words are the numbers of rows and columns of a board of this size, each spelled as the value of an option
pub record IsSizeSpelled (size : Extent) (rows cols : List ℕ) : Type 0 where
  pub is_size : IsExtent size.rows size.cols
  pub is_rows : IsValue rows size.rows
  pub is_cols : IsValue cols size.cols

-- the words are the rows, the columns and then options that choose the settings
pub record SizeAndOptions (size : Extent) (settings : Settings) (words : List (List ℕ)) : Type 0 where
  pub rows : List ℕ
  pub cols : List ℕ
  pub options : List (List ℕ)
  pub parts : words ≡ rows ∷ cols ∷ options
  pub spelled : IsSizeSpelled size rows cols
  pub are_options : AreOptions options settings
