-- Who wins after the opponent's better move wins after the worse one. Where the worse cell is dead for the player once
-- the opponent has the better one, the opponent may have both, and the better one's stone is taken away. Where it is
-- one of a pair of the opponent's, the opponent has as much after the better move as after both: if the opponent won
-- after the worse one, then after the better one too, and both would win.
use Rattle.std.proofs.Common.{◌≢◌, ℕ, refl, sym, subst, ⊎_elim}
use Rattle.hx_board.specs.declared.colours.Colour.{Colour}
use Rattle.hx_board.specs.Colours.{other_of}
use Rattle.hx_board.specs.Positions.{Board, IsBoard, IsEmpty, put}
use Rattle.hx_board.specs.Game.{Wins}
use Rattle.hx_board.proofs.ColourLaws.{other-other}
use Rattle.hx_board.proofs.StoneLaws.{board-put, empty-put}
use Rattle.hx_law.proofs.WinLaws.{extra_stone}
use Rattle.hx_law.proofs.OneWinner.{not_both_win}
use Rattle.hx_inferior.specs.declared.dominations.Kill.{Kill}
use Rattle.hx_inferior.specs.declared.dominations.Kill.TheVariants.{ByDead, ByPair}
use Rattle.hx_inferior.specs.Inferior.{IsDead, IsPair, IsKilled, IsDominated}
use Rattle.hx_inferior.proofs.PairLaws.{dominated-worse}
use Rattle.hx_proof.proofs.StoneOrder.{put-swap}
use Rattle.hx_proof.proofs.DeadSoundness.{wins_with_others_stone_on_dead}
use Rattle.hx_proof.proofs.PairSoundness.{wins_without_pair}
use Rattle.hx_proof.proofs.FillSoundness.{one_wins, wins_without_others_stone}

module _ (board : Board) (mover : Colour) (is : IsBoard board) (better worse : ℕ) (better_empty : IsEmpty board better)
    (worse_empty : IsEmpty board worse) where
  abbrev other : Colour
  other = other_of mover

  abbrev after_better : Board
  after_better = put board mover better

  abbrev after_worse : Board
  after_worse = put board mover worse

  after_better_is : IsBoard after_better
  after_better_is = board-put board mover better is better_empty

  after_worse_is : IsBoard after_worse
  after_worse_is = board-put board mover worse is worse_empty

  wins_under_dead : better ≢ worse → IsDead after_better other worse → Wins other after_better other → Wins other after_worse other
  wins_under_dead differ dead win =
      let with_stone : Wins other (put after_better other worse) other = extra_stone other after_better other worse win in
      let both : Wins other (put after_better (other_of other) worse) other =
      wins_with_others_stone_on_dead other after_better (put after_better other worse) other worse after_better_is dead refl with_stone in
      wins_without_others_stone other after_worse after_worse_is better
      ((empty-put board mover worse better).1 (better_empty, differ)) other
      (rw (other-other mover) (rw (other-other mover, put-swap board mover mover better worse) at both))

  wins_under_pair : (partner : ℕ) → IsPair after_better mover worse partner → Wins other after_better other → Wins other after_worse other
  wins_under_pair partner pair win = ⊎_elim
      (λ movers. absurd (not_both_win after_better after_better_is mover other
      (wins_without_pair mover after_better (put (put after_better mover worse) mover partner) other worse partner after_better_is pair refl
      (with_both_more movers)) win))
      (λ others. others)
      (one_wins after_worse after_worse_is mover other)
    where
      with_both_more : Wins mover after_worse other → Wins mover (put (put after_better mover worse) mover partner) other
      with_both_more movers = extra_stone mover (put after_better mover worse) other partner
          (subst (λ (z : Board). Wins mover z other) (put-swap board mover mover worse better)
          (extra_stone mover after_worse other better movers))

  wins_under_killed : (kill : Kill) → better ≢ worse → IsKilled after_better mover worse kill → Wins other after_better other
      → Wins other after_worse other
  wins_under_killed ByDead differ dead win = wins_under_dead differ dead win
  wins_under_killed (ByPair partner) differ pair win = wins_under_pair partner pair win

pub wins_under : (board : Board) → IsBoard board → (mover : Colour) (better worse : ℕ) (kill : Kill)
    → IsDominated board mover better worse kill
    → Wins (other_of mover) (put board mover better) (other_of mover) → Wins (other_of mover) (put board mover worse) (other_of mover)
wins_under board is mover better worse kill d win =
    let was = dominated-worse board mover better worse kill d in
    wins_under_killed board mover is better worse d.better_empty was.0 kill (λ e. was.1 (sym e)) d.killed win
