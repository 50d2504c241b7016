use Rattle.std.specs.Prelude.{◌≤◌, All, length, string_bytes}
use Rattle.hx_cli.proofs.command_line.words_given.Given as goal

abbrev pub invariant-loop-place : goal.invariant-loop-place
invariant-loop-place g l = All (λ word. length (string_bytes word) ≤ 64) l.words.items
