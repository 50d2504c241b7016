use Rattle.std.proofs.Common.{refl, [], false, sym, arith}
use Rattle.hx_io.proofs.SinkLaws.{append-nil}
use Rattle.hx_htp.specs.Sessions.{moment}
use Rattle.hx_cmd_htp.proofs.Steps.{begun}
use Rattle.hx_cmd_htp.proofs.talks.TalkServes.open.Goals as goal

pub returns-clause-replies : goal.returns-clause-replies
returns-clause-replies g c = record {
  text = [];
  stops = false;
  is_reply = begun (moment c.args.self.now.session (g.A.Answerer.account c.args.self.now.answerer.now));
  told = refl;
  written = record {
    bytes = sym (append-nil (g.K.Sink.writing c.args._sink.now).taken);
    cause = record { later = omega arith; failed = tt };
  };
}
