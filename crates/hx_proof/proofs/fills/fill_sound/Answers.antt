use Rattle.hx_proof.proofs.FillSoundness.{fill_wins}
use Rattle.hx_proof.proofs.fills.fill_sound.Goals as goal

pub returns : goal.returns
returns c = fill_wins c.args.position.now c.size-size.ensures.valid c.args.colour c.args.step c.requires
