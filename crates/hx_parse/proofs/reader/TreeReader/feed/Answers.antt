-- Nothing is taken in place after a fault.
use Rattle.std.proofs.Common.{◌≡◌, ◌∙◌, None}
use Rattle.hx_parse.proofs.reader.TreeReader.feed.Goals as goal

pub returns-in-Some-clause-again : goal.returns-in-Some-clause-again
returns-in-Some-clause-again c = λ fault failed.
    let none : c.take_in_place.result ≡ None = c.take_in_place.ensures.failed fault failed in
    cc

pub returns-in-None-clause-again : goal.returns-in-None-clause-again
returns-in-None-clause-again c = λ fault failed. c.step_on-in-None.ensures.again fault (failed.0, c.in-None.ensures.no ∙ failed.1)
