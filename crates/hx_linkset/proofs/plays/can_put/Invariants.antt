use Rattle.std.proofs.Common.{◌≡◌, take}
use Rattle.hx_linkset.specs.States.{CanPut, put_all}
use Rattle.hx_linkset.proofs.plays.can_put.Given as goal

abbrev pub invariant-loop-stone : goal.invariant-loop-stone
invariant-loop-stone l = record {
  can : CanPut l.position (take l.stone-index l.stones);
  so_far_is : l.so_far ≡ put_all l.position (take l.stone-index l.stones);
}
