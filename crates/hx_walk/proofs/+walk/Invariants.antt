-- At each position the functions call one another in this order, and each move that is made leaves a depth of one less.
use Rattle.std.proofs.Common.{◌+◌, ◌*◌}
use Rattle.hx_walk.specs.Walks.{Keeps}
use Rattle.hx_walk.proofs.+walk.Given as goal

abbrev pub decreases-visits::Walk+K+G+R+Workspace+LinkSet::visit :
    goal.decreases-visits::Walk+K+G+R+Workspace+LinkSet::visit
decreases-visits::Walk+K+G+R+Workspace+LinkSet::visit g l = 11 * l.depth + 10

abbrev pub decreases-visits::Walk+K+G+R+Workspace+LinkSet::visit_granted :
    goal.decreases-visits::Walk+K+G+R+Workspace+LinkSet::visit_granted
decreases-visits::Walk+K+G+R+Workspace+LinkSet::visit_granted g l = 11 * l.depth + 9

abbrev pub decreases-visits::Walk+K+G+R+Workspace+LinkSet::try_zones :
    goal.decreases-visits::Walk+K+G+R+Workspace+LinkSet::try_zones
decreases-visits::Walk+K+G+R+Workspace+LinkSet::try_zones g l = 11 * l.depth + 8

abbrev pub decreases-passes::Walk+K+G+R+Workspace+LinkSet::pass :
    goal.decreases-passes::Walk+K+G+R+Workspace+LinkSet::pass
decreases-passes::Walk+K+G+R+Workspace+LinkSet::pass g l = 11 * l.depth + 4

abbrev pub decreases-passes::Walk+K+G+R+Workspace+LinkSet::pass_at :
    goal.decreases-passes::Walk+K+G+R+Workspace+LinkSet::pass_at
decreases-passes::Walk+K+G+R+Workspace+LinkSet::pass_at g l = 11 * l.depth + 3

abbrev pub decreases-claims::Walk+K+G+R+Workspace+LinkSet::by_zone :
    goal.decreases-claims::Walk+K+G+R+Workspace+LinkSet::by_zone
decreases-claims::Walk+K+G+R+Workspace+LinkSet::by_zone g l = 11 * l.depth + 7

abbrev pub decreases-claims::Walk+K+G+R+Workspace+LinkSet::at_wide :
    goal.decreases-claims::Walk+K+G+R+Workspace+LinkSet::at_wide
decreases-claims::Walk+K+G+R+Workspace+LinkSet::at_wide g l = 11 * l.depth + 6

abbrev pub decreases-unfilled::Walk+K+G+R+Workspace+LinkSet::by_unfilled :
    goal.decreases-unfilled::Walk+K+G+R+Workspace+LinkSet::by_unfilled
decreases-unfilled::Walk+K+G+R+Workspace+LinkSet::by_unfilled g l = 11 * l.depth + 4

abbrev pub decreases-unfilled::Walk+K+G+R+Workspace+LinkSet::at_unfilled :
    goal.decreases-unfilled::Walk+K+G+R+Workspace+LinkSet::at_unfilled
decreases-unfilled::Walk+K+G+R+Workspace+LinkSet::at_unfilled g l = 11 * l.depth + 3

abbrev pub decreases-claims::Walk+K+G+R+Workspace+LinkSet::at_filled :
    goal.decreases-claims::Walk+K+G+R+Workspace+LinkSet::at_filled
decreases-claims::Walk+K+G+R+Workspace+LinkSet::at_filled g l = 11 * l.depth + 5

abbrev pub decreases-claims::Walk+K+G+R+Workspace+LinkSet::at_set :
    goal.decreases-claims::Walk+K+G+R+Workspace+LinkSet::at_set
decreases-claims::Walk+K+G+R+Workspace+LinkSet::at_set g l = 11 * l.depth + 4

abbrev pub decreases-claims::Walk+K+G+R+Workspace+LinkSet::by_moves :
    goal.decreases-claims::Walk+K+G+R+Workspace+LinkSet::by_moves
decreases-claims::Walk+K+G+R+Workspace+LinkSet::by_moves g l = 11 * l.depth + 3

abbrev pub decreases-wins::Walk+K+G+R+Workspace+LinkSet::by_win :
    goal.decreases-wins::Walk+K+G+R+Workspace+LinkSet::by_win
decreases-wins::Walk+K+G+R+Workspace+LinkSet::by_win g l = 11 * l.depth + 1

abbrev pub decreases-answers::Walk+K+G+R+Workspace+LinkSet::by_answers :
    goal.decreases-answers::Walk+K+G+R+Workspace+LinkSet::by_answers
decreases-answers::Walk+K+G+R+Workspace+LinkSet::by_answers g l = 11 * l.depth + 2

abbrev pub decreases-answers::Walk+K+G+R+Workspace+LinkSet::answer :
    goal.decreases-answers::Walk+K+G+R+Workspace+LinkSet::answer
decreases-answers::Walk+K+G+R+Workspace+LinkSet::answer g l = 11 * l.depth + 1

abbrev pub decreases-descents::Walk+K+G+R+Workspace+LinkSet::descend :
    goal.decreases-descents::Walk+K+G+R+Workspace+LinkSet::descend
decreases-descents::Walk+K+G+R+Workspace+LinkSet::descend g l = 11 * l.depth

abbrev pub invariant-visits::Walk+K+G+R+Workspace+LinkSet::try_zones-loop :
    goal.invariant-visits::Walk+K+G+R+Workspace+LinkSet::try_zones-loop
invariant-visits::Walk+K+G+R+Workspace+LinkSet::try_zones-loop g l = Keeps g.K.Knows.view l.fn.self l.self

abbrev pub invariant-wins::Walk+K+G+R+Workspace+LinkSet::by_win-loop :
    goal.invariant-wins::Walk+K+G+R+Workspace+LinkSet::by_win-loop
invariant-wins::Walk+K+G+R+Workspace+LinkSet::by_win-loop g l = Keeps g.K.Knows.view l.fn.self l.self

abbrev pub invariant-answers::Walk+K+G+R+Workspace+LinkSet::answer-loop :
    goal.invariant-answers::Walk+K+G+R+Workspace+LinkSet::answer-loop
invariant-answers::Walk+K+G+R+Workspace+LinkSet::answer-loop g l = Keeps g.K.Knows.view l.fn.self l.self
