use Rattle.std.proofs.Common.{◌≡◌, ℕ, ◌<◌, arith, subst}
use Rattle.hx_board.specs.Floods.{AreNear}
use Rattle.hx_board.proofs.NearLaws.{near_more}
use Rattle.hx_board.proofs.tables.join_top.Goals as goal

pub loop-index-preserved : goal.loop-index-preserved
loop-index-preserved c =
    let small : c.loop-index.index < 121 = omega arith in
    near_more _ _ _ _ small c.loop-index.invariant (rw c.at_index.ensures at c.near.ensures)

pub returns : goal.returns
returns c =
    let end : c.loop-index.index ≡ 22 = omega arith in
    let P : ℕ → Type 0 = λ x. AreNear c.args.graph.now.board.size x c.loop-index.sets in subst P end c.loop-index.invariant
