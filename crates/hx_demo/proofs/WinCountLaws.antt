-- Counts of wins: how one position more changes them, and that a list has one.
use Rattle.std.proofs.Common.{◌≡◌, ℕ, suc, List, [], ◌∷◌, ◌++◌, refl, ap}
use Rattle.hx_board.specs.declared.colours.Colour.{Colour}
use Rattle.hx_board.specs.declared.colours.Colour.TheVariants.{Black}
use Rattle.hx_board.specs.Positions.{Board}
use Rattle.hx_board.specs.Game.{Wins}
use Rattle.hx_demo.specs.WinCounts.{WinsSoMany, Empty, Won, Lost}

pub one_won : (player : Colour) (boards : List Board) (count : ℕ) (board : Board) → WinsSoMany player boards count → Wins player board Black
    → WinsSoMany player (boards ++ board ∷ []) (suc count)
one_won player boards count board Empty wins = Won board [] 0 wins Empty
one_won player boards count board (Won first rest fewer won counted) wins =
    Won first (rest ++ board ∷ []) (suc fewer) won (one_won player rest fewer board counted wins)
one_won player boards count board (Lost first rest same lost counted) wins =
    Lost first (rest ++ board ∷ []) (suc same) lost (one_won player rest same board counted wins)

pub one_lost : (player : Colour) (boards : List Board) (count : ℕ) (board : Board) → WinsSoMany player boards count
    → ¬ Wins player board Black
    → WinsSoMany player (boards ++ board ∷ []) count
one_lost player boards count board Empty loses = Lost board [] 0 loses Empty
one_lost player boards count board (Won first rest fewer won counted) loses =
    Won first (rest ++ board ∷ []) fewer won (one_lost player rest fewer board counted loses)
one_lost player boards count board (Lost first rest same lost counted) loses =
    Lost first (rest ++ board ∷ []) same lost (one_lost player rest same board counted loses)

pub one_count : (player : Colour) (boards : List Board) (m n : ℕ) → WinsSoMany player boards m → WinsSoMany player boards n → m ≡ n
one_count player boards m n Empty Empty = refl
one_count player boards m n (Won first rest fewer won counted) (Won _ _ other won' counted') =
    ap suc (one_count player rest fewer other counted counted')
one_count player boards m n (Won first rest fewer won counted) (Lost _ _ other lost counted') = absurd (lost won)
one_count player boards m n (Lost first rest same lost counted) (Won _ _ other won counted') = absurd (lost won)
one_count player boards m n (Lost first rest same lost counted) (Lost _ _ other lost' counted') =
    one_count player rest same other counted counted'
