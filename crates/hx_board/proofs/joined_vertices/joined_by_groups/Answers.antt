use Rattle.std.proofs.Common.{sym, ◌∙◌, refl}
use Rattle.std.proofs.lemmas.Bool.{false≢true}
use Rattle.hx_board.proofs.AllJoined.{none-grouped, seed-vertex, one_group-joined, seeds-fall, one_more-grouped, grouped-joined}
use Rattle.hx_board.proofs.AllJoined.{joined-grouped}
use Rattle.hx_board.proofs.joined_vertices.joined_by_groups.Goals as goal

pub loop-start-init : goal.loop-start-init
loop-start-init c = none-grouped _ _ c.own.ensures.valid.0 _ _ _ c.empty-sets.ensures

pub flood_to-reach-requires : goal.flood_to-reach-requires
flood_to-reach-requires c =
    seed-vertex _ _ c.own.ensures.valid.0 _ _ _ _ c.own.ensures.own c.spread.ensures c.meet-waiting.ensures.set _ _ _ c.loop-start.invariant
    c.in-Some.ensures.first.member c.in-Some.ensures.some

pub returns-then-inside : goal.returns-then-inside
returns-then-inside c = (
  (λ _. one_group-joined _ _ c.own.ensures.valid.0 _ _ _ _ c.own.ensures.own c.spread.ensures c.meet-waiting.ensures.set _ _ _
      c.loop-start.invariant c.in-Some.ensures.first.member c.in-Some.ensures.some _ c.flood_to-reach.ensures
      (c.inside.ensures.0 c.if-inside.true)),
  (λ _. refl),
)

pub loop-start-preserved : goal.loop-start-preserved
loop-start-preserved c =
    rw c.minus-waiting.ensures.set
    (one_more-grouped _ _ c.own.ensures.valid.0 _ _ _ _ c.own.ensures.own c.spread.ensures c.meet-waiting.ensures.set _ _ _
    c.loop-start.invariant c.in-Some.ensures.first.member c.in-Some.ensures.some _ c.flood_to-reach.ensures
    (λ all. false≢true (sym c.if-inside.false ∙ c.inside.ensures.1 all))
    _ c.join_all.ensures.len (rw c.meet.ensures.set at c.join_all.ensures.sets))

pub loop-start-smaller : goal.loop-start-smaller
loop-start-smaller c =
    rw c.minus-waiting.ensures.set
    (seeds-fall _ _ c.own.ensures.valid.0 _ _ _ _ c.own.ensures.own c.spread.ensures c.meet-waiting.ensures.set _ _ _
    c.loop-start.invariant c.in-Some.ensures.first.member c.in-Some.ensures.some _ c.flood_to-reach.ensures
    (λ all. false≢true (sym c.if-inside.false ∙ c.inside.ensures.1 all)))

pub returns : goal.returns
returns c = (
  (λ h. grouped-joined _ _ c.own.ensures.valid.0 _ _ _ _ c.own.ensures.own c.spread.ensures c.meet-waiting.ensures.set _ _
      c.in_default.ensures.first c.loop-start.invariant (c.are_each_reached.ensures.0 h)),
  (λ all. c.are_each_reached.ensures.1 (joined-grouped _ _ c.own.ensures.valid.0 _ _ _ _ c.own.ensures.own c.spread.ensures
      c.meet-waiting.ensures.set _ _ c.in_default.ensures.first c.loop-start.invariant all)),
)
