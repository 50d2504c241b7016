use Rattle.std.proofs.Common.{sym, ◌∙◌, arith, eq-eqb, eqb-true}
use Rattle.std.proofs.lemmas.Bool.{false≢true}
use Rattle.hx_board.proofs.ColourLaws.{other-other}
use Rattle.hx_fill.proofs.RoundLaws.{round-adds, round-right, round-kinds, round-none, fewer_rounds, nothing_left-both}
use Rattle.hx_fill.proofs.rounds.fill_in.Goals.{else-has_none-via-then-has_none+else-has_other_none, else-has_none-via-else-has_none}
use Rattle.hx_fill.proofs.rounds.fill_in.Goals as goal

pub returns-then-has_other_none-clause-fills : goal.returns-then-has_other_none-clause-fills
returns-then-has_other_none-clause-fills c =
    let round = round-adds _ _ _ _ _ c.in_ok-fill_round.ensures in
    record {
      dead_or_pairs = round-kinds _ _ _ _ _ round c.loop-filled.invariant.dead_or_pairs;
      right = round-right _ _ _ _ _ round c.args.position.now c.loop-filled.invariant.right;
    }

pub returns-then-has_other_none-clause-nothing_left : goal.returns-then-has_other_none-clause-nothing_left
returns-then-has_other_none-clause-nothing_left c =
    let round = round-adds _ _ _ _ _ c.in_ok-fill_round.ensures in
    let before = c.loop-filled.filled.steps.ok.0 in
    let after = c.fill_round.new.filled.steps.ok.0 in
    let same = c.if-has_none.true in
    let none = round-none _ _ _ _ _ round (omega (arith, before, after, same)) in
    nothing_left-both _ c.loop-filled.colour none.1 (rw none.0 (c.loop-filled.invariant.none c.if-has_other_none.true))

pub loop-filled-smaller : goal.loop-filled-smaller
loop-filled-smaller c =
    let before = c.loop-filled.filled.steps.ok.0 in
    let after = c.fill_round.new.filled.steps.ok.0 in
    fewer_rounds _ _ _ _ _ (round-adds _ _ _ _ _ c.in_ok-fill_round.ensures) c.loop-filled.has_other_none _ c.size-size.ensures.valid
    (λ same. eq-eqb _ _ (omega (arith, before, after, same)))
    (λ none. let same = eqb-true _ _ none in omega (arith, before, after, same))
    (λ none other. elim c.else-has_none.branch [
      | else-has_none-via-then-has_none+else-has_other_none w ↦ false≢true (sym w.if-has_other_none.false ∙ other)
      | else-has_none-via-else-has_none w ↦ w.if-has_none.false (eqb-true _ _ none)
    ])

pub loop-filled-preserved : goal.loop-filled-preserved
loop-filled-preserved c =
    let round = round-adds _ _ _ _ _ c.in_ok-fill_round.ensures in
    let before = c.loop-filled.filled.steps.ok.0 in
    let after = c.fill_round.new.filled.steps.ok.0 in
    record {
      dead_or_pairs = round-kinds _ _ _ _ _ round c.loop-filled.invariant.dead_or_pairs;
      right = round-right _ _ _ _ _ round c.args.position.now c.loop-filled.invariant.right;
      none = λ none. let same = eqb-true _ _ none in
          rw (c.other-colour.ensures, other-other c.loop-filled.colour) (round-none _ _ _ _ _ round (omega (arith, before, after, same))).1;
    }
