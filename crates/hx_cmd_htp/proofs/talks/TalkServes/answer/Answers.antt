use Rattle.std.proofs.Common.{sym}
use Rattle.hx_htp.specs.Sessions.{moment}
use Rattle.hx_cmd_htp.proofs.Steps.{steps_on}
use Rattle.hx_cmd_htp.proofs.talks.TalkServes.answer.Goals as goal

pub returns-clause-replies : goal.returns-clause-replies
returns-clause-replies g c = record {
  text = c.line-reply.result.text;
  stops = c.line-reply.result.quit;
  is_reply = λ start. steps_on (moment start.session (g.A.Answerer.account start.answerer.now)) _ _ c.args.line.now
      c.line-reply.result.text c.line-reply.result.quit c.line-reply.ensures.step (sym c.line-reply.ensures.quit);
  told = c.write_reply.ensures.told;
  written = rw c.bytes.ensures at c.write_reply.ensures.written;
}
