use Rattle.hx_proof.proofs.LinkSoundness.{who_secures_the_sides_wins}
use Rattle.hx_proof.proofs.locals.local_wins.Goals as goal

pub returns : goal.returns
returns c = who_secures_the_sides_wins c.args.position.now c.args.colour c.args.carrier c.args.to_move c.requires
