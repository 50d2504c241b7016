-- What a session replied between two moments: words for the functions inside the crate alone.
use Rattle.hx_lines.specs.Services.{Answers}
use Rattle.hx_htp.specs.Sessions.{Moment}
use Rattle.hx_htp.specs.Runs.{Run}
use Rattle.hx_cmd_htp.specs.Serving.{StopsByQuit}

-- what a session replied from this moment to that one, and whether it stops
abbrev pub runs_to : Moment → Moment → Answers
runs_to start now = λ lines replies stopped. Run start lines replies now × StopsByQuit lines stopped
