use Rattle.std.proofs.Common.{◌∙◌}
use Rattle.hx_linkset.proofs.FieldLaws.{fields-none}
use Rattle.hx_linkset.proofs.sets.LinkSet.new.Goals as goal

pub invariant_of-result : goal.invariant_of-result
invariant_of-result c = fields-none c.args.colour c.args.position.now _ _ _ _ _ _ _ _ _
    c.new-5.ensures c.new-6.ensures.items c.in-Ok.ensures.items c.in-Ok-new.ensures
    (c.in-Ok-new-4.ensures.ok ∙ c.of.ensures) c.allowed_on.ensures
    c.size-size.ensures.valid c.in-Ok-new-2.ensures c.in-Ok-new-3.ensures c.in-Ok.ensures.capacity
