use Rattle.std.proofs.Common.{◌≡◌, ℕ, ◌-◌, ◌<◌, ◌≤◌, length, arith, subst}
use Rattle.hx_board.specs.Floods.{AreNear}
use Rattle.hx_board.proofs.NearLaws.{near_below}
use Rattle.hx_board.proofs.GroupLaws.{read-is}
use Rattle.hx_board.proofs.tables.join_rest.Goals as goal

pub loop-index-preserved : goal.loop-index-preserved
loop-index-preserved c =
    let high : 22 ≤ c.loop-index.index = c.loop-index.auto.index in
    let small : c.loop-index.index < 121 = c.loop-index-test.true in
    let within : c.loop-index.index - 11 < length c.loop-index.sets = rw c.loop-index.invariant.count (omega arith) in
    near_below _ _ _ _ _ high small c.loop-index.invariant (read-is _ _ _ within c.index-sets-index.is) c.below.ensures

pub returns : goal.returns
returns c =
    let end : c.loop-index.index ≡ 121 = omega arith in
    let P : ℕ → Type 0 = λ x. AreNear c.args.graph.now.board.size x c.loop-index.sets in subst P end c.loop-index.invariant
