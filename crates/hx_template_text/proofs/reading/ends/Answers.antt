use Rattle.std.proofs.Common.{sym, ◌∙◌}
use Rattle.std.proofs.lemmas.Bool.{false≢true}
use Rattle.hx_template_text.proofs.Misfits.{ends_misfit}
use Rattle.hx_template_text.proofs.reading.ends.Goals as goal

pub returns-else-are_ends : goal.returns-else-are_ends
returns-else-are_ends c =
    let on = rw c.size.ensures.value at c.in_ok-ends.ensures.0 in
    ends_misfit c.args.position.now c.requires c.args.owner c.in_ok-ends.ends.a c.in_ok-ends.ends.b c.args.line.now on.0 on.1
    c.in_ok-ends.ensures.1 (λ are. false≢true (sym c.if-are_ends.false ∙ c.are_ends.ensures.1 are))
