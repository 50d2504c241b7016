use Rattle.std.proofs.Common.{◌≡◌, ℕ, [], ◌∷◌, ◌++◌, get_or, set, sym, ◌∙◌, rules}
use Rattle.hx_board.specs.VertexSets.{code_of}
use Rattle.hx_link.specs.declared.links.Link.{Link}
use Rattle.hx_linkset.specs.declared.fulls.FullLink.{FullLink}
use Rattle.hx_linkset.proofs.FullListLaws.{lists-once, lists-twice, pushed-back}
use Rattle.hx_linkset.proofs.fulls.FullLists.enter.Goals as goal

-- a link as its ends see it
abbrev at_a : ℕ → Link → FullLink
at_a index link = record { index = index; to = link.b; carrier = link.carrier }

abbrev at_b : ℕ → Link → FullLink
at_b index link = record { index = index; to = link.a; carrier = link.carrier }

pub returns-then-first-second-clause-ok : goal.returns-then-first-second-clause-ok
returns-then-first-second-clause-ok c = λ links index_is are.
    let same : code_of c.args.link.now.a ≡ code_of c.args.link.now.b = sym c.code-first.ensures.value
    ∙ (c.if-first-second.true ∙ c.code-second.ensures.value) in
    let pushed : c.push.new.self ≡ set c.args.self.now c.code-first.result
    (get_or c.args.self.now c.code-first.result [] ++ at_a c.args.index c.args.link.now ∷ []) = search rules in
    rw (pushed, c.code-first.ensures.value, ← index_is)
    (lists-once links c.args.link.now c.args.self.now are c.requires c.code-first.ensures.some c.code-second.ensures.some same)

pub returns-then-is_err-2-clause-err : goal.returns-then-is_err-2-clause-err
returns-then-is_err-2-clause-err c =
    let pushed : c.push.new.self ≡ set c.args.self.now c.code-first.result
    (get_or c.args.self.now c.code-first.result [] ++ at_a c.args.index c.args.link.now ∷ []) = search rules in
    let as_before : c.push-2.new.self ≡ c.push.new.self = search rules in
    rw (c.pop.ensures, as_before, pushed) (pushed-back c.args.self.now c.code-first.result (at_a c.args.index c.args.link.now))

pub returns-clause-ok : goal.returns-clause-ok
returns-clause-ok c = λ links index_is are.
    let pushed : c.push.new.self ≡ set c.args.self.now c.code-first.result
    (get_or c.args.self.now c.code-first.result [] ++ at_a c.args.index c.args.link.now ∷ []) = search rules in
    let more : c.push-2.new.self ≡ set c.push.new.self c.code-second.result
    (get_or c.push.new.self c.code-second.result [] ++ at_b c.args.index c.args.link.now ∷ []) = search rules in
    rw (more, pushed, c.code-first.ensures.value, c.code-second.ensures.value, ← index_is)
    (lists-twice links c.args.link.now c.args.self.now are c.requires c.code-first.ensures.some c.code-second.ensures.some
    (λ same. c.if-first-second.false (c.code-first.ensures.value ∙ (same ∙ sym c.code-second.ensures.value))))
