use Rattle.std.proofs.Common.{◌≡◌, take}
use Rattle.hx_packed.proofs.steps.or_of.Given as goal

abbrev pub invariant-loop-part : goal.invariant-loop-part
invariant-loop-part l = l.items.items ≡ take l.part-index l.parts
