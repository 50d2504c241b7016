use Rattle.std.proofs.Common.{◌≡◌, List, ℕ, sym, ap, ◌∙◌, subst, arith}
use Rattle.hx_board.specs.Cells.{Extent}
use Rattle.hx_io.specs.Sinks.{append, TakesFront}
use Rattle.hx_io.proofs.SinkLaws.{append-nil}
use Rattle.hx_cmd_survey.specs.Texts.{letters}
use Rattle.hx_cmd_survey.proofs.Fronts.{one_more, cut_short}
use Rattle.hx_cmd_survey.proofs.Rows.{letter_at, is_letter, letters-none, letters-next}
use Rattle.hx_cmd_survey.proofs.texts.write_letters.Goals as goal

pub loop-col-init : goal.loop-col-init
loop-col-init g c = record {
  out = sym (ap (append (g.K.Sink.writing c.args.sink.now).taken) (letters-none c.args.table.now.cells_of_black c.args.row)
      ∙ append-nil (g.K.Sink.writing c.args.sink.now).taken);
  later = omega arith;
}

pub returns-in-Err : goal.returns-in-Err
returns-in-Err g c =
    let black = c.args.table.now.cells_of_black in
    let row = c.args.row in
    let col = c.loop-col.col in
    let front = λ (bytes : List ℕ). TakesFront (g.K.Sink.writing c.loop-col.sink).taken (g.K.Sink.writing c.write_all.new.sink).taken bytes in
    let same = is_letter black row col c.in-Some.ensures.1 c.winner.ensures c.letter_of.ensures in
    record {
      bytes = cut_short (letters black row) (letter_at black row) (letters-next black row) _ _ _ col c.args.table.now.size.cols
          (omega (arith, c.loop-col-test.true, c.cols-col-end.ensures.value, ap (λ (s : Extent). s.cols) c.size-size.ensures)) c.loop-col.invariant.out
          (subst front same c.in-Err.ensures.bytes);
      cause = record {
        later = omega (arith, c.loop-col.invariant.later, c.in-Err.ensures.cause.later);
        failed = omega (arith, c.loop-col.invariant.later, c.in-Err.ensures.cause.failed);
      };
    }

pub loop-col-preserved : goal.loop-col-preserved
loop-col-preserved g c =
    let black = c.args.table.now.cells_of_black in
    let row = c.args.row in
    let col = c.loop-col.col in
    let out = λ (bytes : List ℕ). (g.K.Sink.writing c.write_all.new.sink).taken ≡ append (g.K.Sink.writing c.loop-col.sink).taken bytes in
    let same = is_letter black row col c.in-Some.ensures.1 c.winner.ensures c.letter_of.ensures in
    record {
      out = one_more (letters black row) (letter_at black row) (letters-next black row) _ _ _ col c.loop-col.invariant.out
          (subst out same c.in-Ok.ensures.bytes);
      later = omega (arith, c.loop-col.invariant.later, c.in-Ok.ensures.cause.later);
    }
