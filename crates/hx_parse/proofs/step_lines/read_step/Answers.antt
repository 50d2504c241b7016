use Rattle.hx_board.specs.declared.Memory.{Memory}
use Rattle.hx_parse.proofs.FirstWords.{step_reads, or_of_line}
use Rattle.hx_parse.proofs.step_lines.read_step.Goals as goal

pub returns-clause-reads : goal.returns-clause-reads
returns-clause-reads c = step_reads {E = Memory} c.args.size _ _ _ c.rows-rows.ensures.valid c.of-words.ensures c.read_words.ensures.reads

pub returns-clause-memory : goal.returns-clause-memory
returns-clause-memory c = or_of_line {E = Memory} c.args.line.now _ _ c.of-words.ensures c.read_words.ensures.memory
