use Rattle.std.proofs.Common.{arith}
use Rattle.hx_cmd_solve.proofs.NodesOut.{none_out, one_more_out, cut_short, all_out}
use Rattle.hx_cmd_solve.proofs.solutions.write_nodes.Goals as goal

pub loop-node-init : goal.loop-node-init
loop-node-init g c = record { out = none_out _ c.args.nodes.now; later = omega arith }

pub returns-in-Err : goal.returns-in-Err
returns-in-Err g c = record {
  bytes = cut_short _ _ _ c.args.nodes.now c.loop-node.node-index c.node-item.result c.loop-node-test.true c.node-item.is
      c.loop-node.invariant.out c.in-Err.ensures.bytes;
  cause = record {
    later = omega (arith, c.loop-node.invariant.later, c.in-Err.ensures.cause.later);
    failed = omega (arith, c.loop-node.invariant.later, c.in-Err.ensures.cause.failed);
  };
}

pub loop-node-preserved : goal.loop-node-preserved
loop-node-preserved g c = record {
  out = one_more_out _ _ _ c.args.nodes.now c.loop-node.node-index c.node-item.result c.loop-node-test.true c.node-item.is
      c.loop-node.invariant.out c.in-Ok.ensures.bytes;
  later = omega (arith, c.loop-node.invariant.later, c.in-Ok.ensures.cause.later);
}

pub returns : goal.returns
returns g c = record {
  bytes = all_out _ _ c.args.nodes.now c.loop-node.node-index (omega arith) c.loop-node.invariant.out;
  cause = record { later = c.loop-node.invariant.later; failed = tt };
}
