use Rattle.std.proofs.Common.{rules, arith, refl}
use Rattle.hx_text.specs.Spelling.{part_text}
use Rattle.hx_text.proofs.Pieces.{each_so_far, each_cut_short}
use Rattle.hx_text.proofs.writer.write_parts.Goals as goal

pub returns-in_err-write_part : goal.returns-in_err-write_part
returns-in_err-write_part g c = record {
  bytes =
      each_cut_short part_text _ _ _ _ _ _ _ _ _ _ _ c.loop-part-test.true refl c.from_residual.ensures.0 c.loop-part.invariant.out
      c.in_err-write_part.ensures.bytes;
  cause = search rules;
}

pub loop-part-preserved : goal.loop-part-preserved
loop-part-preserved g c = record {
  out = each_so_far part_text _ _ _ _ _ _ _ _ _ _ c.loop-part-test.true refl c.loop-part.invariant.out c.in_ok-write_part.ensures.bytes;
  later = omega arith;
}
