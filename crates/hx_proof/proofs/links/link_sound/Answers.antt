use Rattle.hx_link.specs.declared.links.Kind.TheVariants.{Full}
use Rattle.hx_proof.proofs.LinkSoundness.{end_in_chain_link_wins, end_in_chain_link_wins_with_the_move}
use Rattle.hx_proof.proofs.links.link_sound.Goals as goal

pub returns-clause-with_the_move : goal.returns-clause-with_the_move
returns-clause-with_the_move c =
    end_in_chain_link_wins_with_the_move c.args.position.now c.args.colour c.requires.0 c.args.steps.now c.requires.1

pub returns-clause-without_it : goal.returns-clause-without_it
returns-clause-without_it c = end_in_chain_link_wins c.args.position.now c.args.colour Full c.args.steps.now
