-- What was kept is still, and from the place on it is by Ors.
use Rattle.std.proofs.Common.{ℕ, Option, None}
use Rattle.hx_board.specs.Positions.{Board}
use Rattle.hx_play.specs.Kept.{AreKept, ArePartedFrom}
use Rattle.hx_play.proofs.kept.take_all_apart.Given as goal

abbrev pub invariant-loop-place : goal.invariant-loop-place
invariant-loop-place l = (stone : Option ℕ) (board : Board) → AreKept l.position l.player l.links l.initial.marks None stone board
    → ArePartedFrom l.position l.player l.steps l.links l.marks stone board l.place
