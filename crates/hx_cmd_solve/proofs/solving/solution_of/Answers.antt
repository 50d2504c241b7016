use Rattle.hx_cmd_solve.proofs.solving.solution_of.Goals as goal

pub returns-clause-winner : goal.returns-clause-winner
returns-clause-winner c = rw c.deref-2.ensures.value at c.root_winner.ensures.named
