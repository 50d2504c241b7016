use Rattle.std.proofs.Common.{◌≡◌, take}
use Rattle.hx_linkset.specs.States.{put_all}
use Rattle.hx_linkset.proofs.plays.with_all.Given as goal

abbrev pub invariant-loop-stone : goal.invariant-loop-stone
invariant-loop-stone l = l.after ≡ put_all l.position (take l.stone-index l.stones)
