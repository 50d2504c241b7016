use Rattle.hx_cmd_solve.proofs.OpenPositions.{left_open_found}
use Rattle.hx_cmd_solve.proofs.SolvedTrees.{solution_found, solution_written}
use Rattle.hx_cmd_solve.proofs.solving.found.Goals as goal

pub returns-in-Ok-search-clause-found : goal.returns-in-Ok-search-clause-found
returns-in-Ok-search-clause-found g c =
    rw c.without_refusal-in-Ok-search.ensures.answer
    (solution_found c.args.plain_tree c.args.input.now c.in-Ok.found.0 c.in-Ok.found.1 c.in-Ok-search.nodes.items c.solution_of.result
    (record { is_board = c.in-Ok.ensures.read.0; same = c.in-Ok.ensures.read.1 }) c.in-Ok-search.ensures.tree
    c.in-Ok-search.ensures.plain c.solution_of.ensures.nodes c.solution_of.ensures.size c.solution_of.ensures.version
    c.solution_of.ensures.winner)

pub returns-in-Ok-search-clause-writable : goal.returns-in-Ok-search-clause-writable
returns-in-Ok-search-clause-writable g c =
    rw c.without_refusal-in-Ok-search.ensures.answer
    (solution_written c.in-Ok.found.0 c.in-Ok.found.1 c.in-Ok-search.nodes.items c.solution_of.result c.in-Ok-search.ensures.tree
    c.solution_of.ensures.nodes c.solution_of.ensures.version)

pub returns-in-Err-search-clause-found : goal.returns-in-Err-search-clause-found
returns-in-Err-search-clause-found g c =
    left_open_found c.args.settings c.args.plain_tree c.args.input.now c.in-Ok.found.0 c.in-Ok.found.1 c.in-Err-search.why
    _ (record { is_board = c.in-Ok.ensures.read.0; same = c.in-Ok.ensures.read.1 }) c.in-Err-search.ensures.small
    c.in-Err-search.ensures.no_chain c.left_open-answer.ensures.tells
