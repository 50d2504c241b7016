use Rattle.std.proofs.Common.{◌≡◌, true}
use Rattle.hx_board.specs.Sets.{has}
use Rattle.hx_board.specs.Graph.{IsVertex, IsOwn}
use Rattle.hx_board.specs.VertexSets.{code_of}
use Rattle.hx_board.proofs.SetLaws.{has-intersection_left, has-intersection_right}
use Rattle.hx_board.proofs.VertexSetLaws.{code-vertex}
use Rattle.hx_board.proofs.AllJoined.{reached-joined, joined-reached}
use Rattle.hx_board.proofs.joined_vertices.all_joined.Goals as goal

pub returns-in-Some : goal.returns-in-Some
returns-in-Some c =
    let own = rw c.of-graph.ensures at c.own.ensures.own in
    let reach = rw c.of-graph.ensures at c.flood_to.ensures in
    let member = rw c.meet.ensures.set at c.in-Some.ensures.first.member in
    let in_set : has c.args.set (code_of c.in-Some.start) ≡ true = has-intersection_left _ _ _ member in
    let is : IsVertex c.args.position.now.size c.in-Some.start = code-vertex _ _ (c.requires _ in_set) c.in-Some.ensures.some in
    let mine : IsOwn c.args.position.now c.args.player c.in-Some.start = (own.members _ is).0 (has-intersection_right _ _ _ member) in (
      (λ h. reached-joined _ _ (rw c.of-graph.ensures at c.own.ensures.valid).0 _ _ _ reach mine (c.inside.ensures.0 h)),
      (λ all. c.inside.ensures.1
          (joined-reached _ _ (rw c.of-graph.ensures at c.own.ensures.valid).0 _ _ _ reach c.requires is in_set all)),
    )

pub returns-in-None : goal.returns-in-None
returns-in-None c = rw c.of-graph.ensures at c.joined_by_groups.ensures
