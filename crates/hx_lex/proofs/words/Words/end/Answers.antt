use Rattle.std.proofs.Common.{◌∙◌}
use Rattle.hx_lex.proofs.Cursors.{words_left-some}
use Rattle.hx_lex.proofs.words.Words.end.Goals as goal

pub returns-then-self : goal.returns-then-self
returns-then-self c = λ e. words_left-some _ _ c.if-self.true (c.self.view_is ∙ e)
