use Rattle.hx_test_support.proofs.games.+wins_by.Given as goal

abbrev pub decreases-wins_by : goal.decreases-wins_by
decreases-wins_by g l = l.moves
