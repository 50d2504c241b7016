use Rattle.std.proofs.Common.{◌≡◌, sym, false}
use Rattle.hx_play.proofs.GameRuns.{steps_on, waits_after_line}
use Rattle.hx_play.proofs.services.PlayerServes.answer.Goals as goal

pub returns-clause-replies : goal.returns-clause-replies
returns-clause-replies g c = record {
  text = c.answer_line-reply.result.text;
  stops = c.answer_line-reply.result.ended;
  is_reply = λ start.
      steps_on start c.args.self.now c.answer_line-reply.new.player c.args.line.now c.answer_line-reply.result.text
      c.answer_line-reply.result.ended c.answer_line-reply.ensures;
  told = c.write_reply.ensures.told;
  written = rw c.bytes.ensures at c.write_reply.ensures.written;
}

pub returns-clause-waiting : goal.returns-clause-waiting
returns-clause-waiting g c = λ goes_on.
    let ended : false ≡ c.answer_line-reply.result.ended = rw goes_on at c.write_reply.ensures.told in
    waits_after_line c.args.self.now c.args.line.now c.answer_line-reply.result.text c.answer_line-reply.new.player c.requires.waiting
    (rw (sym ended) at c.answer_line-reply.ensures)
