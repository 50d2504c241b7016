use Rattle.std.proofs.Common.{◌≡◌, ◌<◌, ◌++◌, [], ◌∷◌, ◌+◌, length, get_or, take, arith}
use Rattle.hx_packed.specs.KeptSteps.{step_of}
use Rattle.hx_packed.proofs.PartLaws.{step-more}
use Rattle.hx_packed.proofs.steps.KeptSteps.steps.Goals as goal

pub loop-kept-preserved : goal.loop-kept-preserved
loop-kept-preserved c =
    let inside = c.self.inside in
    let within : c.loop-kept.kept-index < length inside.steps.items = omega arith in
    let there : c.kept-item.result ≡ get_or inside.steps.items c.loop-kept.kept-index c.kept-item.result =
    rw c.as_slice-kept-items.ensures.value at c.kept-item.is in
    let step : c.in_ok-step.step ≡ step_of inside.parts.items c.kept-item.result =
    rw c.as_slice.ensures.value at c.in_ok-step.ensures in
    let pushed : c.push.new.self.items ≡ c.loop-kept.made.items ++ c.in_ok-step.step ∷ [] =
    rw c.if-is_err.ensures.negation at c.push.ensures.items in
    let more : take c.loop-kept.kept-index c.args.self.now ++ step_of inside.parts.items c.kept-item.result ∷ []
    ≡ take (c.loop-kept.kept-index + 1) c.args.self.now =
    step-more inside.parts.items inside.steps.items c.loop-kept.kept-index c.kept-item.result c.args.self.now within
    there c.self.view_is in
    cc (c.loop-kept.invariant)
