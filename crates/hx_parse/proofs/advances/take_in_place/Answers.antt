use Rattle.hx_parse.proofs.advances.take_in_place.Goals as goal

pub returns-then-goes_on-clause-yes : goal.returns-then-goes_on-clause-yes
returns-then-goes_on-clause-yes c = rw c.in-Inside.is (c.goes_on.ensures.yes c.if-goes_on.true).2

pub returns-in-Some-clause-yes : goal.returns-in-Some-clause-yes
returns-in-Some-clause-yes c = rw c.in-Between.is c.in-Some.ensures.yes
