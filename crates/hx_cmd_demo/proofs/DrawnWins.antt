-- Counts of wins over the positions that a seed draws: one position more, that each is small under a budget that is
-- enough, and who wins it by a tree.
use Rattle.std.proofs.Common.{◌≡◌, ℕ, suc, ◌+◌, ◌≤◌, List, [], ◌∷◌, ◌++◌, refl, sym, ap, ◌∙◌, subst, arith}
use Rattle.hx_board.specs.declared.colours.Colour.{Colour}
use Rattle.hx_board.specs.declared.colours.Colour.TheVariants.{Black, White}
use Rattle.hx_board.specs.Positions.{Board}
use Rattle.hx_board.specs.Counts.{empty_count, sweep_size, IsSmall}
use Rattle.hx_demo.specs.Generators.{generator_of}
use Rattle.hx_demo.specs.Draws.{first_positions}
use Rattle.hx_demo.specs.WinCounts.{Empty}
use Rattle.hx_demo.proofs.DrawnOneByOne.{position_after, positions_from-none, positions_from-more}
use Rattle.hx_demo.proofs.WinCountLaws.{one_won, one_lost}
use Rattle.hx_tree.specs.declared.nodes.Node.{Node}
use Rattle.hx_solve.specs.Solutions.{IsSolution}
use Rattle.hx_cmd_demo.specs.declared.answers.WinCounts.{WinCounts}
use Rattle.hx_cmd_demo.specs.Roots.{OnlyWins, OnlyWinsRoot}
use Rattle.hx_cmd_demo.specs.Answers.{enough, one_win_more, AreCounts}

abbrev no_wins : WinCounts
no_wins = record { black = 0; white = 0 }

-- nothing is drawn yet
pub counts_none : (seed : ℕ) → AreCounts (first_positions 0 seed) no_wins 0
counts_none seed =
    let Counts : List Board → Type 0 = λ boards. AreCounts boards no_wins 0 in
    subst Counts (sym (positions_from-none (generator_of seed))) (record { black = Empty; white = Empty; all = refl })

-- a position behind those that are counted
counts_with : (boards : List Board) (wins : WinCounts) (count : ℕ) (board : Board) (winner : Colour) → AreCounts boards wins count
    → OnlyWins winner board Black → AreCounts (boards ++ board ∷ []) (one_win_more winner wins) (count + 1)
counts_with boards wins count board Black before only =
    let one : wins.black + 1 ≡ suc wins.black = omega arith in record {
      black = rw one (one_won Black boards wins.black board before.black only.wins);
      white = one_lost White boards wins.white board before.white only.other_does_not;
      all = omega (arith, before.all);
    }
counts_with boards wins count board White before only =
    let one : wins.white + 1 ≡ suc wins.white = omega arith in record {
      black = one_lost Black boards wins.black board before.black only.other_does_not;
      white = rw one (one_won White boards wins.white board before.white only.wins);
      all = omega (arith, before.all);
    }

pub counts_more : (count seed : ℕ) (wins next : WinCounts) (board : Board) (winner : Colour)
    → AreCounts (first_positions count seed) wins count → board ≡ position_after count (generator_of seed) → OnlyWins winner board Black
    → next ≡ one_win_more winner wins → AreCounts (first_positions (count + 1) seed) next (count + 1)
counts_more count seed wins next board winner before drawn only is =
    let Counts : List Board → Type 0 = λ boards. AreCounts boards next (count + 1) in
    let Wins_next : WinCounts → Type 0 = λ w. AreCounts (first_positions count seed ++ board ∷ []) w (count + 1) in
    let same : first_positions (count + 1) seed ≡ first_positions count seed ++ board ∷ [] =
    positions_from-more count (generator_of seed) ∙ ap (λ (b : Board). first_positions count seed ++ b ∷ []) (sym drawn) in
    subst Counts (sym same) (subst Wins_next (sym is) (counts_with (first_positions count seed) wins count board winner before only))

-- ---- small positions

nine_cells : sweep_size 9 ≡ enough
unfolding sweep_size
nine_cells = refl

pub small_enough : (board : Board) (budget : ℕ) → empty_count board ≡ 9 → enough ≤ budget → IsSmall board budget
small_enough board budget nine some =
    let size : sweep_size (empty_count board) ≡ enough = ap sweep_size nine ∙ nine_cells in
    record { few = omega arith; within = omega arith }

-- ---- the winner of a tree that solves a position

pub only_winner : (board : Board) (nodes : List Node) (winner : Colour) → IsSolution board Black nodes → OnlyWinsRoot nodes winner
    → OnlyWins winner board Black
only_winner board nodes winner is wins =
    let At : Board → Type 0 = λ b. OnlyWins winner b Black in
    let Of : Colour → Type 0 = λ mover. OnlyWins winner is.root.heading.position mover in
    subst At is.position (subst Of is.to_move (wins is.root is.last))
