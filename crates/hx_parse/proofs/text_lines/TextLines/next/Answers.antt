use Rattle.std.proofs.Common.{sym, refl}
use Rattle.hx_parse.proofs.UnreadLines.{lacks_each, lacks_this}
use Rattle.hx_parse.proofs.text_lines.TextLines.next.Goals as goal

pub returns-in_default-clause-fault : goal.returns-in_default-clause-fault
returns-in_default-clause-fault g c = lacks_each _ _ (sym c.self.view_is) c.in_default.ensures

pub returns-in_default-read-clause-fault : goal.returns-in_default-read-clause-fault
returns-in_default-read-clause-fault g c =
    lacks_this _ _ _ _ (sym c.self.view_is) c.in-Some.ensures (c.in-Some.line, c.in_default-read.ensures, refl)
