-- At each position the functions call one another in this order, and each move that is made leaves a depth of one less.
use Rattle.std.proofs.Common.{◌+◌, ◌*◌}
use Rattle.hx_dfpn.specs.Searches.{Keeps}
use Rattle.hx_dfpn.proofs.visits.Search+K+G+R+Workspace+LinkSet.+search.Given as goal

abbrev pub decreases-visit : goal.decreases-visit
decreases-visit g l = 7 * l.depth + 6

abbrev pub decreases-visit_granted : goal.decreases-visit_granted
decreases-visit_granted g l = 7 * l.depth + 5

abbrev pub decreases-with_own : goal.decreases-with_own
decreases-with_own g l = 7 * l.depth + 4

abbrev pub decreases-with_others : goal.decreases-with_others
decreases-with_others g l = 7 * l.depth + 3

abbrev pub decreases-expand : goal.decreases-expand
decreases-expand g l = 7 * l.depth + 2

abbrev pub decreases-go_on : goal.decreases-go_on
decreases-go_on g l = 7 * l.depth + 1

abbrev pub decreases-descend : goal.decreases-descend
decreases-descend g l = 7 * l.depth

abbrev pub invariant-expand-loop : goal.invariant-expand-loop
invariant-expand-loop g l = Keeps g.K.Knows.view l.fn.self l.self
