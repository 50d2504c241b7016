use Rattle.std.proofs.Common.{length}
use Rattle.hx_cli.specs.Words.{words_of}
use Rattle.hx_cli.proofs.Leads.{Goes}
use Rattle.hx_cli.proofs.choices.take_options.Given as goal

abbrev pub invariant-loop-choice : goal.invariant-loop-choice
invariant-loop-choice l = Goes (words_of l.words) l.fn.before (words_of l.rest) l.chosen

abbrev pub decreases-loop-choice : goal.decreases-loop-choice
decreases-loop-choice l = length l.rest
