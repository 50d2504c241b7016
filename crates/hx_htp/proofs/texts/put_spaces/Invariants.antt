use Rattle.std.proofs.Common.{◌≡◌, ◌+◌, ◌≤◌, ◌++◌, length, replicate}
use Rattle.hx_htp.proofs.texts.put_spaces.Given as goal

abbrev pub invariant-loop : goal.invariant-loop
invariant-loop l = record {
  text : l.text ≡ l.fn.text ++ replicate l.counter 32;
  short : length l.text ≤ length l.fn.text + l.counter;
}
