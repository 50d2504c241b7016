use Rattle.hx_tests_games.proofs.plain_locals.+plain_local.Given as goal

abbrev pub decreases-plain_local : goal.decreases-plain_local
decreases-plain_local l = l.moves
