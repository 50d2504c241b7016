use Rattle.std.proofs.Common.{rules, arith, refl}
use Rattle.hx_text.proofs.Pieces.{each_so_far, each_cut_short}
use Rattle.hx_text.proofs.writer.write_threats.Goals as goal

pub returns-in_err-write_threat : goal.returns-in_err-write_threat
returns-in_err-write_threat g c = record {
  bytes =
      each_cut_short _ _ _ _ _ _ _ _ _ _ _ _ c.loop-place-test.true refl c.from_residual.ensures.0 c.loop-place.invariant.out
      c.in_err-write_threat.ensures.bytes;
  cause = search rules;
}

pub loop-place-preserved : goal.loop-place-preserved
loop-place-preserved g c = record {
  out = each_so_far _ _ _ _ _ _ _ _ _ _ _ c.loop-place-test.true refl c.loop-place.invariant.out c.in_ok-write_threat.ensures.bytes;
  later = omega arith;
}
