use Rattle.hx_proof.proofs.LinkSoundness.{right_steps_give_what_holds}
use Rattle.hx_proof.proofs.EmptyCarriers.{right_steps_have_empty_carriers}
use Rattle.hx_proof.proofs.locals.link_local.Goals as goal

pub returns-clause-holds : goal.returns-clause-holds
returns-clause-holds c =
    λ link end. right_steps_give_what_holds c.args.position.now c.args.colour c.args.steps.now end.links end.right link (_, end.is_last)

pub returns-clause-empty : goal.returns-clause-empty
returns-clause-empty c =
    λ link end. right_steps_have_empty_carriers c.args.position.now c.args.colour c.args.steps.now end.links end.right link (_, end.is_last)
