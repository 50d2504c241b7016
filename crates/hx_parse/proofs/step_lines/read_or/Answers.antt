use Rattle.std.proofs.Common.{◌≡◌, sym, ◌∙◌, arith, true, Result, Ok, Err}
use Rattle.std.proofs.lemmas.Bool.{false≢true}
use Rattle.std.specs.Result.{OnOk, is_ok}
use Rattle.hx_lex.proofs.Cursors.{ends_here, goes_on_here}
use Rattle.hx_parse.proofs.OrWords.{no_parts_taken, part_taken, all_parts_taken, no_part_next, too_many_parts}
use Rattle.hx_parse.proofs.step_lines.read_or.Goals as goal

pub loop-init : goal.loop-init
loop-init c = (no_parts_taken _ _ c.new-items.ensures.items, omega (arith, c.new-items.ensures.capacity))

pub returns-then-is_some-clause-reads : goal.returns-then-is_some-clause-reads
returns-then-is_some-clause-reads c =
    let none = ends_here _ c.end.ensures (sym c.if-is_some.true ∙ c.is_some.ensures) in
    let taken = c.loop.invariant.0 in
    (c.loop.items.items, c.or_of.ensures, omega (arith, taken.count_is), taken.numbers, all_parts_taken taken none)

pub returns-in_default-clause-reads : goal.returns-in_default-clause-reads
returns-in_default-clause-reads c = λ step is.
    no_part_next c.loop.invariant.0
    (goes_on_here _ c.end.ensures (sym c.if-is_some.false ∙ c.is_some.ensures)) c.in_default.ensures is.0 is.3 is.4

-- what a push that went well says
at_ok : {T E P : Type 0} (result : Result T E) → true ≡ is_ok result → OnOk result P → P
at_ok (Ok done) test holds = holds
at_ok (Err error) test holds = absurd (false≢true (sym test))

pub loop-preserved : goal.loop-preserved
loop-preserved c = (
  part_taken c.loop.invariant.0 c.in-Some.ensures.0 c.in-Some.ensures.1
      (at_ok c.push.result c.in_ok-map_err.ensures.variant c.push.ensures.ok),
  omega (arith, c.loop.invariant.1, c.push.ensures.capacity),
)

pub returns-in-Some-end-clause-reads : goal.returns-in-Some-end-clause-reads
returns-in-Some-end-clause-reads c =
    let taken = c.loop.invariant.0 in (
      c.loop.items.items,
      c.or_of-in-Some-end.ensures,
      omega (arith, taken.count_is),
      taken.numbers,
      all_parts_taken taken c.in-Some-end.ensures,
    )

pub returns-in-None-clause-reads : goal.returns-in-None-clause-reads
returns-in-None-clause-reads c = λ step is.
    too_many_parts c.loop.invariant.0 c.in-None.ensures (omega (arith, c.loop-test.false)) is.0 is.2 is.3 is.4
