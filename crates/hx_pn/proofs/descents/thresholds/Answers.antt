use Rattle.std.proofs.Common.{ap, arith}
use Rattle.hx_pn.specs.declared.proof_numbers.Numbers.{Numbers}
use Rattle.hx_pn.proofs.ChildLaws.{second_delta-small, numbers_at, phi-le-sum}
use Rattle.hx_pn.proofs.descents.thresholds.Goals as goal

pub overflow_add-best : goal.overflow_add-best
overflow_add-best c = omega (arith, c.in_ok-best.ensures.second, second_delta-small c.args.children.now c.in_ok-best.best.place)

pub overflow_add-child_limit : goal.overflow_add-child_limit
overflow_add-child_limit c =
    omega (
      arith,
      c.requires.limit.delta,
      (numbers_at c.args.children.now c.in_ok-best.best.child c.in_ok-best.best.place c.requires.children
          c.in_ok-best.ensures.chosen.there).phi,
    )

-- the node's delta is below its threshold, so the sum of phi does not stop before, and the child's phi is part of it
pub returns-clause-numbers : goal.returns-clause-numbers
returns-clause-numbers c = record {
  phi = omega (
    arith,
    c.requires.limit.delta,
    c.if-limit-node-2.false,
    ap (λ (n : Numbers). n.delta) c.combine-node.ensures.value,
    phi-le-sum c.args.children.now c.in_ok-best.best.child c.in_ok-best.best.place c.in_ok-best.ensures.chosen.there,
  );
  delta = omega (arith, c.min.ensures, c.requires.limit.phi);
}
