-- What a run of `demo` is good for: it is counted who wins in the game tree, and what is left open has its cause.
use Rattle.std.specs.Prelude.{◌≡◌, ℕ, ◌<◌, ◌≤◌, List, Option}
use Rattle.hx_io.specs.Sinks.{Writing, append}
use Rattle.hx_demo.specs.Draws.{first_positions}
use Rattle.hx_limits.specs.declared.settings.Settings.{Settings}
use Rattle.hx_cmd_demo.specs.declared.answers.WinCounts.{WinCounts}
use Rattle.hx_finish.specs.declared.finishes.Finish.{Finish}
use Rattle.hx_finish.specs.Finishes.{EndsSo}
use Rattle.hx_cmd_demo.specs.Answers.{positions, enough, counts_line, AreCounts}

-- The output is the line of these counts: of the first 200 positions that the seed draws each player wins so many in
-- the game tree, with Black to move.
pub record SaysCounts (seed : ℕ) (before now : Option (List ℕ)) : Type 0 where
  pub wins : WinCounts
  pub counts : AreCounts (first_positions positions seed) wins positions
  pub output : now ≡ append before (counts_line seed wins)

-- The promises of `demo` with its seed and settings, by how far was written to its sink before and is now, and how it
-- ended: with status 0 the output is the line of the true counts; a budget of at least 986,410 units is enough for it,
-- and 3 comes only with a lower budget.
abbrev pub KeepsPromises : ℕ → Settings → Writing → Writing → Finish → Type 0
KeepsPromises seed settings sink sink_now finish =
    EndsSo (SaysCounts seed sink.taken sink_now.taken) (enough ≤ settings.budget) (settings.budget < enough)
    settings sink sink_now finish
