use Rattle.std.proofs.Common.{◌≡◌, ◌++◌, [], ◌∷◌, length, arith}
use Rattle.std.proofs.lemmas.Result.{on_ok_weaker}
use Rattle.hx_packed.specs.declared.steps.KeptStep.TheVariants.{Or as KeptOr}
use Rattle.hx_packed.proofs.PartLaws.{or-put}
use Rattle.hx_packed.proofs.steps.KeptSteps.push_or.Goals as goal

pub returns : goal.returns
returns c =
    let old = c.self.inside in
    let from_is : c.in_ok-from.from ≡ length old.parts.items = omega (arith, c.in_ok-from.ensures, c.len.ensures, old.parts.ok) in
    on_ok_weaker c.put.result
    (λ (is : c.put.new.steps.items ≡ old.steps.items ++ KeptOr c.in_ok-from.from c.in_ok-count.count ∷ []).
    or-put old.parts.items c.args.parts.now c.add_parts.new.all.items c.in_ok-from.from c.in_ok-count.count old.steps.items
    c.put.new.steps.items c.args.self.now c.self.invariant c.self.view_is c.in_ok-add_parts.ensures.added from_is
    c.in_ok-count.ensures is)
    c.put.ensures.put
