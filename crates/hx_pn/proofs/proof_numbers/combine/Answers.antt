use Rattle.std.proofs.Common.{take, arith}
use Rattle.hx_pn.proofs.ChildLaws.{least_delta-more, least_delta-small, phi_sum-more}
use Rattle.hx_pn.proofs.proof_numbers.combine.Goals as goal

pub loop-child-preserved : goal.loop-child-preserved
loop-child-preserved c = record {
  phi = omega (
    arith,
    c.min-phi.ensures,
    c.loop-child.invariant.phi,
    least_delta-more c.args.children.now c.loop-child.child-index (record { phi = 0; delta = 0 }) c.loop-child-test.true c.requires,
  );
  delta = omega (
    arith,
    c.min-delta.ensures,
    c.loop-child.invariant.delta,
    phi_sum-more c.args.children.now c.loop-child.child-index (record { phi = 0; delta = 0 }) c.loop-child-test.true,
  );
}

pub returns-clause-numbers : goal.returns-clause-numbers
returns-clause-numbers c = record {
  phi = omega (arith, c.loop-child.invariant.phi, least_delta-small (take c.loop-child.child-index c.args.children.now));
  delta = omega (arith, c.loop-child.invariant.delta);
}
