use Rattle.std.proofs.Common.{sym, ◌∙◌}
use Rattle.hx_lex.proofs.Cursors.{word_missing, word_taken, words_kept}
use Rattle.hx_lex.proofs.words.Words.takes.Goals as goal

pub returns-clause-taken : goal.returns-clause-taken
returns-clause-taken c found = word_taken _ c.keyword.ensures.takes (sym found ∙ c.is_some.ensures)

pub returns-clause-missing : goal.returns-clause-missing
returns-clause-missing c lacks = word_missing _ _ c.keyword.ensures.takes (sym lacks ∙ c.is_some.ensures)

pub returns-clause-same : goal.returns-clause-same
returns-clause-same c lacks = words_kept _ c.keyword.ensures.same (sym lacks ∙ c.is_some.ensures)
