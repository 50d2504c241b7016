use Rattle.std.proofs.Common.{rules, ◌≡◌}
use Rattle.hx_tree.specs.Entries.{IsFirstFound}
use Rattle.hx_nodes.proofs.MoveNodes.{move_right}
use Rattle.hx_nodes.proofs.moves.store_move.Goals as goal

pub store-requires-clause-right : goal.store-requires-clause-right
store-requires-clause-right g c =
    let is : IsFirstFound (g.P.Proofs.sight c.look.new.self).list c.with-next.result c.other.result c.in-Some.found =
    c.in-Some.ensures.found in
    let same : c.in-Some.found.winner ≡ c.args.to_move = search rules in
    move_right _ _ _ _ c.in-Some.found c.size-size.ensures.valid c.requires (rw (c.with-next.ensures, c.other.ensures) at is) same
