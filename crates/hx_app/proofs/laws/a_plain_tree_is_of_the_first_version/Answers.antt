use Rattle.std.proofs.Common.{refl}
use Rattle.hx_app.proofs.PlainTexts.{plain_first_version}
use Rattle.hx_app.proofs.laws.a_plain_tree_is_of_the_first_version.Goals as goal

pub returns : goal.returns
returns c = λ input taken taken_now solved.
    plain_first_version solved.is_text.preamble.version solved.nodes solved.version (solved.plain refl)
