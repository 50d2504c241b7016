use Rattle.hx_parse.proofs.advances.between.Goals as goal

pub returns-then-so_far-lt-MOST_NODES : goal.returns-then-so_far-lt-MOST_NODES
returns-then-so_far-lt-MOST_NODES c =
    λ nodes lines stands. rw c.in-Some.ensures.1 (c.begin.ensures nodes lines stands c.if-so_far-lt-MOST_NODES.true c.in-Some.ensures.0)
