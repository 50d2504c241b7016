use Rattle.std.proofs.Common.{arith}
use Rattle.std.proofs.lemmas.Grind.{common_steps}
use Rattle.std.proofs.lemmas.List.{take_rest}
use Rattle.hx_io.proofs.SinkLaws.{append-take-add}
use Rattle.hx_io.proofs.sinks.write_all.Goals as goal

-- What was taken so far and the new piece are the slice up to the new place.
pub loop-place-preserved : goal.loop-place-preserved
loop-place-preserved g c = grind (arith, common_steps, take_rest, append-take-add)
