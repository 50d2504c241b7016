use Rattle.hx_cli.specs.Words.{words_of}
use Rattle.hx_cli.proofs.Leads.{AreChoicesAfter-no_end, words_of-some}
use Rattle.hx_cli.proofs.choices.settings_after.Goals as goal

pub returns-else-is_empty : goal.returns-else-is_empty
returns-else-is_empty c =
    AreChoicesAfter-no_end c.args.before (words_of c.args.words.now) (words_of c.in_ok-chosen.rest.now) c.in_ok-chosen.chosen
    c.in_ok-chosen.ensures (words_of-some c.in_ok-chosen.rest.now c.if-is_empty.ensures)
