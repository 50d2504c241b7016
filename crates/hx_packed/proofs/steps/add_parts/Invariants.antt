use Rattle.std.proofs.Common.{◌≡◌, ◌++◌, take}
use Rattle.hx_packed.proofs.steps.add_parts.Given as goal

abbrev pub invariant-loop-part : goal.invariant-loop-part
invariant-loop-part l = l.all.items ≡ l.initial.all.items ++ take l.part-index l.parts
