-- What `demo` answers, and when.
use Rattle.std.specs.Prelude.{◌≡◌, ℕ, ◌+◌, ◌<◌, List, ◌++◌, codes}
use Rattle.hx_io.specs.Sinks.{Writing}
use Rattle.hx_board.specs.declared.colours.Colour.{Colour}
use Rattle.hx_board.specs.declared.colours.Colour.TheVariants.{Black, White}
use Rattle.hx_board.specs.Positions.{Board}
use Rattle.hx_demo.specs.Draws.{first_positions}
use Rattle.hx_demo.specs.WinCounts.{WinsSoMany}
use Rattle.hx_limits.specs.declared.settings.Settings.{Settings}
use Rattle.hx_limits.specs.Tallies.{Tallied}
use Rattle.hx_answers.specs.Texts.{numbered_text, counted_text}
use Rattle.hx_answers.specs.Endings.{IsWritten}
use Rattle.hx_cmd_demo.specs.declared.answers.DemoAnswer.{DemoAnswer}
use Rattle.hx_cmd_demo.specs.declared.answers.DemoAnswer.TheVariants.{Counted, LeftOpen}
use Rattle.hx_cmd_demo.specs.declared.answers.WinCounts.{WinCounts}
use Rattle.hx_finish.specs.declared.finishes.Finish.{Finish}
use Rattle.hx_finish.specs.Wants.{wanting_text, wanting_status, wanting_tally, no_refusal, IsWantingWhere}

-- how many positions are drawn
abbrev pub positions : ℕ
positions = 200

-- a budget with which each drawn position is small: the most nodes of a full search of nine empty cells
abbrev pub enough : ℕ
enough = 986410

-- the line of the counts
abbrev pub draws_text : ℕ → List ℕ
draws_text seed = numbered_text (codes "demo ") seed ++ numbered_text (codes " positions ") positions

abbrev pub wins_text : WinCounts → List ℕ
wins_text wins = numbered_text (codes " black ") wins.black ++ numbered_text (codes " white ") wins.white

abbrev pub counts_line : ℕ → WinCounts → List ℕ
counts_line seed wins = draws_text seed ++ wins_text wins ++ counted_text (codes " checked ") positions

-- what is written for each answer
abbrev pub answer_text : DemoAnswer → List ℕ
answer_text (Counted seed wins) = counts_line seed wins
answer_text (LeftOpen wanting) = wanting_text wanting

-- the exit status that tells each answer, where it was written whole
abbrev pub status_of : DemoAnswer → ℕ
status_of (Counted seed wins) = 0
status_of (LeftOpen wanting) = wanting_status wanting

-- the refusals that stand behind each answer
abbrev pub tally_of : Settings → DemoAnswer → Tallied
tally_of settings (Counted seed wins) = no_refusal settings
tally_of settings (LeftOpen wanting) = wanting_tally settings wanting

-- of these positions each player wins so many in the game tree, with Black to move, and one player wins each
pub record AreCounts (boards : List Board) (wins : WinCounts) (count : ℕ) : Type 0 where
  pub black : WinsSoMany Black boards wins.black
  pub white : WinsSoMany White boards wins.white
  pub all : wins.black + wins.white ≡ count

-- when each answer comes
abbrev pub IsDue : ℕ → Settings → DemoAnswer → Type 0
IsDue seed settings (Counted number wins) = (number ≡ seed) × AreCounts (first_positions positions seed) wins positions
IsDue seed settings (LeftOpen wanting) = IsWantingWhere settings (settings.budget < enough) wanting

-- A run of `demo`: some answer is due, it was written, and the tally has the refusals behind it.
pub record IsDemoRun (seed : ℕ) (settings : Settings) (sink sink_now : Writing) (finish : Finish) : Type 0 where
  pub answer : DemoAnswer
  pub due : IsDue seed settings answer
  pub written : IsWritten sink sink_now (answer_text answer) (status_of answer) finish.status
  pub counted : finish.tally ≡ tally_of settings answer

-- ---- words for the functions inside the crate alone

-- the counts with one win more
abbrev pub one_win_more : Colour → WinCounts → WinCounts
one_win_more Black wins = record wins { black = wins.black + 1 }
one_win_more White wins = record wins { white = wins.white + 1 }
