use Rattle.std.proofs.Common.{rules, arith}
use Rattle.hx_text.proofs.Pieces.{each_so_far, each_cut_short}
use Rattle.hx_text.proofs.writer.write_each.Goals as goal

pub returns-in_err-write : goal.returns-in_err-write
returns-in_err-write g c = record {
  bytes =
      each_cut_short _ _ _ _ _ _ _ _ _ _ _ _ c.loop-item-test.true c.item-item.is c.from_residual.ensures.0 c.loop-item.invariant.out
      c.in_err-write.ensures.bytes;
  cause = search rules;
}

pub loop-item-preserved : goal.loop-item-preserved
loop-item-preserved g c = record {
  out = each_so_far _ _ _ _ _ _ _ _ _ _ _ c.loop-item-test.true c.item-item.is c.loop-item.invariant.out c.in_ok-write.ensures.bytes;
  later = omega arith;
}
