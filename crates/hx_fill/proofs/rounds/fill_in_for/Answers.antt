use Rattle.std.proofs.Common.{arith}
use Rattle.hx_fill.proofs.RoundLaws.{round-adds, round-right, round-kinds, round-fewer}
use Rattle.hx_fill.proofs.rounds.fill_in_for.Goals as goal

pub returns-then-has_none : goal.returns-then-has_none
returns-then-has_none c =
    let round = round-adds _ _ _ _ _ c.in_ok-fill_round.ensures in
    record {
      fills = record {
        dead_or_pairs = round-kinds _ _ _ _ _ round c.loop-filled.invariant.dead_or_pairs;
        right = round-right _ _ _ _ _ round c.args.position.now c.loop-filled.invariant.right;
      };
    }

pub loop-filled-smaller : goal.loop-filled-smaller
loop-filled-smaller c =
    let before = c.loop-filled.filled.steps.ok.0 in
    let after = c.fill_round.new.filled.steps.ok.0 in
    round-fewer _ _ _ _ _ (round-adds _ _ _ _ _ c.in_ok-fill_round.ensures) c.size-size.ensures.valid
    (λ same. c.if-has_none.false (omega (arith, before, after, same)))

pub loop-filled-preserved : goal.loop-filled-preserved
loop-filled-preserved c =
    let round = round-adds _ _ _ _ _ c.in_ok-fill_round.ensures in
    record {
      dead_or_pairs = round-kinds _ _ _ _ _ round c.loop-filled.invariant.dead_or_pairs;
      right = round-right _ _ _ _ _ round c.args.position.now c.loop-filled.invariant.right;
    }
