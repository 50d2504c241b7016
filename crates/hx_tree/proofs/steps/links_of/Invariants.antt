-- The steps before the place are right and give the links so far, which have the room that was taken for all of them.
use Rattle.std.proofs.Common.{◌≡◌, length, take, [], vec_len}
use Rattle.std.specs.Vec.{vec_capacity}
use Rattle.hx_link.specs.Steps.{AreRightSteps}
use Rattle.hx_tree.proofs.steps.links_of.Given as goal

abbrev pub invariant-loop-step : goal.invariant-loop-step
invariant-loop-step l = record {
  right : AreRightSteps l.position l.fn.colour [] (take l.step-index l.steps) l.links.items;
  count : vec_len l.links ≡ l.step-index;
  room : vec_capacity l.links ≡ length l.steps;
}
