use Rattle.hx_proof.proofs.TreeSoundness.{tree_wins, root_wins}
use Rattle.hx_proof.proofs.trees.tree_sound.Goals as goal

pub returns-clause-all : goal.returns-clause-all
returns-clause-all c = tree_wins c.args.nodes.now c.requires

pub returns-clause-root : goal.returns-clause-root
returns-clause-root c = λ root is. root_wins c.args.nodes.now root c.requires is
