use Rattle.hx_linkset.proofs.LiveThreats.{threats-live}
use Rattle.hx_sketch.proofs.answers.node_for.Goals as goal

pub derivation-requires : goal.derivation-requires
derivation-requires c = rw c.items-2.ensures (threats-live c.args.set.now c.args.found.now.threats c.requires.live)
