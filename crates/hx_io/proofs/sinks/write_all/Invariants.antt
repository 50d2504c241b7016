use Rattle.std.proofs.Common.{◌≡◌, ◌≤◌, ◌-◌, length, take}
use Rattle.hx_io.specs.Sinks.{append}
use Rattle.hx_io.proofs.sinks.write_all.Given as goal

abbrev pub invariant-loop-place : goal.invariant-loop-place
invariant-loop-place g l = record {
  within : l.place ≤ length l.bytes;
  taken : (g.K.Sink.writing l.sink).taken ≡ append (g.K.Sink.writing l.initial.sink).taken (take l.place l.bytes);
  later : (g.K.Sink.writing l.initial.sink).faults ≤ (g.K.Sink.writing l.sink).faults;
}

abbrev pub decreases-loop-place : goal.decreases-loop-place
decreases-loop-place g l = length l.bytes - l.place
