use Rattle.hx_lex.proofs.Masks.{ReadHex}
use Rattle.hx_lex.proofs.values.half_mask.Given as goal

abbrev pub invariant-loop-byte : goal.invariant-loop-byte
invariant-loop-byte l = ReadHex l.byte-items l.byte-index l.bits l.known
