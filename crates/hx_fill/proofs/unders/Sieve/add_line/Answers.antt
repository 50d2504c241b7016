use Rattle.std.proofs.Common.{sym, ◌∙◌}
use Rattle.std.proofs.lemmas.Result.{on_ok_weaker}
use Rattle.hx_fill.proofs.UnderLaws.{adds_none, adds_one}
use Rattle.hx_fill.proofs.unders.Sieve.add_line.Goals as goal

pub returns-in-None : goal.returns-in-None
returns-in-None c = adds_none c.args.self.now.choices c.args.cell c.args.lines.now.items (sym c.get.ensures ∙ c.in-None.is)

pub returns-in-Some : goal.returns-in-Some
returns-in-Some c = on_ok_weaker c.push.result
    (adds_one c.args.self.now.choices c.args.cell c.in-Some.better
    (sym c.get.ensures ∙ c.in-Some.is) c.args.lines.now.items c.push.new.lines.items) c.push.ensures
