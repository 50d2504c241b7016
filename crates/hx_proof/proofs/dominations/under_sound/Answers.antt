use Rattle.hx_proof.proofs.UnderSoundness.{wins_under}
use Rattle.hx_proof.proofs.dominations.under_sound.Goals as goal

pub returns : goal.returns
returns c = wins_under c.args.position.now c.size-size.ensures.valid c.args.mover c.args.better c.args.worse c.args.kill c.requires
