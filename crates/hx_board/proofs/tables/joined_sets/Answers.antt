use Rattle.hx_board.proofs.NearLaws.{near_none}
use Rattle.hx_board.proofs.tables.joined_sets.Goals as goal

pub join_top-requires : goal.join_top-requires
join_top-requires c = near_none _ _ c.empty-sets.ensures
