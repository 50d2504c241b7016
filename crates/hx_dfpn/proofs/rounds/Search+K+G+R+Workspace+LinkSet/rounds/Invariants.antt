use Rattle.hx_dfpn.specs.Searches.{Keeps}
use Rattle.hx_dfpn.proofs.rounds.Search+K+G+R+Workspace+LinkSet.rounds.Given as goal

abbrev pub invariant-loop : goal.invariant-loop
invariant-loop g l = record {
  turns : (goal.iterator-loop g).can_next l.iterator' × (goal.iterator-loop g).is_finite l.iterator';
  keeps : Keeps g.K.Knows.view l.fn.self l.self;
}
