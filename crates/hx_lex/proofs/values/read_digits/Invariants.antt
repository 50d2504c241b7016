use Rattle.hx_lex.proofs.Numbers.{ReadDigits}
use Rattle.hx_lex.proofs.values.read_digits.Given as goal

abbrev pub invariant-loop-byte : goal.invariant-loop-byte
invariant-loop-byte l = ReadDigits l.word l.byte-index l.value
