use Rattle.std.proofs.Common.{◌≡◌, ◌≤◌, ◌+◌, ◌-◌, vec_len}
use Rattle.hx_io.specs.Sources.{prepend}
use Rattle.hx_answers.proofs.input.read_all.Given as goal

abbrev pub invariant-loop-buffer : goal.invariant-loop-buffer
invariant-loop-buffer g l = record {
  read : (g.S.Source.reading l.initial.source).left ≡ prepend l.bytes.items (g.S.Source.reading l.source).left;
  later : (g.S.Source.reading l.initial.source).faults ≤ (g.S.Source.reading l.source).faults;
}

abbrev pub decreases-loop-buffer : goal.decreases-loop-buffer
decreases-loop-buffer g l = l.limit + 1 - vec_len l.bytes
