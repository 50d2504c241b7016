use Rattle.hx_cmd_htp.proofs.SearcherLaws.{counting_continues}
use Rattle.hx_cmd_htp.proofs.searchers.SearcherAnswerer.solve.Goals as goal

pub returns-in-Err-clause-continues : goal.returns-in-Err-clause-continues
returns-in-Err-clause-continues g c =
    counting_continues c.in-Err.why c.args.self.now.tally c.left_open.new.tally c.left_open.ensures.counted c.left_open.ensures.later
