use Rattle.hx_lex.proofs.Cursors.{takes_by_word, takes_at_end}
use Rattle.hx_lex.proofs.words.Words.number.Goals as goal

pub returns-in_err-word : goal.returns-in_err-word
returns-in_err-word c = rw c.from_residual.ensures (takes_at_end _ _ _ c.next.new.self c.in_err-word.ensures)

pub returns : goal.returns
returns c = takes_by_word _ _ _ _ _ _ c.in_ok-word.ensures c.read_number.ensures
