use Rattle.std.proofs.Common.{◌≡◌, sym, ◌∙◌}
use Rattle.hx_board.specs.VertexSets.{code_of}
use Rattle.hx_linkset.proofs.FullListLaws.{cut-once, cut-twice}
use Rattle.hx_linkset.proofs.fulls.FullLists.leave.Goals as goal

pub returns-then-first-second : goal.returns-then-first-second
returns-then-first-second c = λ links are.
    let same : code_of c.args.link.now.a ≡ code_of c.args.link.now.b = sym c.code-first.ensures.value
    ∙ (c.if-first-second.true ∙ c.code-second.ensures.value) in
    rw (c.pop.ensures, c.code-first.ensures.value)
    (cut-once links c.args.link.now c.args.self.now are c.requires c.code-first.ensures.some c.code-second.ensures.some same)

pub returns : goal.returns
returns c = λ links are.
    rw (c.pop-2.ensures, c.pop.ensures, c.code-first.ensures.value, c.code-second.ensures.value)
    (cut-twice links c.args.link.now c.args.self.now are c.requires c.code-first.ensures.some c.code-second.ensures.some
    (λ same. c.if-first-second.false (c.code-first.ensures.value ∙ (same ∙ sym c.code-second.ensures.value))))
