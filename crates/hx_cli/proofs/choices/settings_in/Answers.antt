use Rattle.hx_cli.specs.Words.{words_of}
use Rattle.hx_cli.proofs.OptionWords.{found_choices}
use Rattle.hx_cli.proofs.choices.settings_in.Goals as goal

pub returns : goal.returns
returns c = found_choices (words_of c.args.words.now) _ (rw c.nothing.ensures at c.settings_after.ensures)
