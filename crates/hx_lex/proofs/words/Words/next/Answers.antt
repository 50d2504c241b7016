use Rattle.std.proofs.Common.{sym, ◌∙◌}
use Rattle.hx_lex.proofs.Cursors.{words_left-cut, words_left-lacks}
use Rattle.hx_lex.proofs.words.Words.next.Goals as goal

pub returns-in-Some : goal.returns-in-Some
returns-in-Some c = sym c.self.view_is ∙ words_left-cut _ _ _ _ c.if-not-self.false c.in-Some.ensures

pub returns-in-None : goal.returns-in-None
returns-in-None c = sym c.self.view_is ∙ words_left-lacks _ _ c.if-not-self.false c.in-None.ensures
