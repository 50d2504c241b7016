use Rattle.std.proofs.Common.{sym, ◌∙◌, refl}
use Rattle.std.proofs.lemmas.Bool.{false≢true}
use Rattle.hx_board.proofs.SetLaws.{remove-lt}
use Rattle.hx_board.proofs.Lowest.{some_member}
use Rattle.hx_board.proofs.AllJoined.{next-vertex, none-reached, one_more-reached, reached-within, all-reached}
use Rattle.hx_board.proofs.joined_vertices.are_each_reached.Goals as goal

pub loop-vertex-init : goal.loop-vertex-init
loop-vertex-init c = none-reached _ _ _ _

pub reached_from-requires : goal.reached_from-requires
reached_from-requires c =
    next-vertex _ c.args.graph.now.player c.own-own.ensures.valid.0 _ c.requires _ _ c.loop-vertex.invariant _
    c.in-Some.ensures.first.member
    c.in-Some.ensures.some

pub returns-then-not-inside : goal.returns-then-not-inside
returns-then-not-inside c = (
  (λ h. absurd (false≢true h)),
  (λ all. sym c.if-not-inside.true
      ∙ c.inside.ensures.1 (reached-within _ _ c.own-own.ensures.valid.0 _ c.requires _ _ c.loop-vertex.invariant _
      c.in-Some.ensures.first.member c.in-Some.ensures.some _ c.reached_from.ensures all)),
)

pub without_lowest-waiting-requires : goal.without_lowest-waiting-requires
without_lowest-waiting-requires c = some_member _ _ c.in-Some.ensures.first

pub loop-vertex-preserved : goal.loop-vertex-preserved
loop-vertex-preserved c =
    rw (c.without_lowest-waiting.ensures _ c.in-Some.ensures.first)
    (one_more-reached _ _ c.own-own.ensures.valid.0 _ c.requires _ _ c.loop-vertex.invariant _ c.in-Some.ensures.first.member
    c.in-Some.ensures.some _ c.reached_from.ensures (c.inside.ensures.0 c.if-not-inside.false))

pub loop-vertex-smaller : goal.loop-vertex-smaller
loop-vertex-smaller c = rw (c.without_lowest-waiting.ensures _ c.in-Some.ensures.first) (remove-lt _ _ c.in-Some.ensures.first.member)

pub returns : goal.returns
returns c = ((λ _. all-reached _ _ _ _ _ c.in_default.ensures.first c.loop-vertex.invariant), (λ _. refl))
