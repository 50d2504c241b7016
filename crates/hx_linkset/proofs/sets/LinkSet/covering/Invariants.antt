use Rattle.hx_link.specs.declared.links.Link.{Link}
use Rattle.hx_board.specs.Sets.{IsSubset}
use Rattle.hx_linkset.specs.Held.{IsLiveThere}
use Rattle.hx_linkset.proofs.WalkLaws.{WalkedTo, left_from}
use Rattle.hx_linkset.proofs.sets.LinkSet.covering.Given as goal

abbrev pub invariant-loop-node : goal.invariant-loop-node
invariant-loop-node l =
    WalkedTo l.self-inside.links (IsLiveThere l.self-inside.position l.self-inside.colour)
    (λ (held : Link). IsSubset held.carrier l.fn.link.carrier) l.head l.node

abbrev pub decreases-loop-node : goal.decreases-loop-node
decreases-loop-node l = left_from l.node
