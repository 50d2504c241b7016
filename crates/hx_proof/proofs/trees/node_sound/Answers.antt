use Rattle.hx_proof.proofs.TreeSoundness.{node_wins}
use Rattle.hx_proof.proofs.trees.node_sound.Goals as goal

pub returns : goal.returns
returns c = node_wins c.args.before.now c.args.node.now c.requires.earlier c.requires.right
