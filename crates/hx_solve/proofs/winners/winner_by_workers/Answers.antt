use Rattle.std.proofs.Common.{rules}
use Rattle.std.specs.Prelude.{IfErr}
use Rattle.hx_solve.specs.Searches.{SaysWhy}
use Rattle.hx_solve.proofs.TreeSolutions.{lack-told}
use Rattle.hx_solve.proofs.winners.winner_by_workers.Goals as goal

pub returns-in_err-found-clause-no_chain : goal.returns-in_err-found-clause-no_chain
returns-in_err-found-clause-no_chain g c =
    let says : IfErr c.from_residual-in_err-found.result (SaysWhy c.in_ok-searched.searched.end) = search rules in
    lack-told c.from_residual-in_err-found.result c.in_ok-searched.searched.end _ _ c.in_ok-searched.ensures.has_tried says
