use Rattle.std.proofs.Common.{◌≡◌, List, [], ◌∷◌, ◌++◌, ◌<◌, length, ◌∙◌, arith, rules}
use Rattle.std.proofs.lemmas.List.{set-get_or}
use Rattle.hx_linkset.specs.declared.fulls.FullLink.{FullLink}
use Rattle.hx_linkset.proofs.FullListLaws.{contents-written}
use Rattle.hx_linkset.proofs.fulls.FullLists.push.Goals as goal

pub returns-clause-ok : goal.returns-clause-ok
returns-clause-ok c =
    let old = c.index_mut.result.now in
    let inside : c.args.code < length c.self.inside.lists.items = omega (arith, c.self.invariant, c.requires) in
    let full : FullLink = record { index = c.args.index; to = c.args.to.now; carrier = c.args.link.now.carrier } in
    let one_more : c.push.new.self.items ≡ old.items ++ full ∷ [] = search rules in
    contents-written c.self.inside.lists.items c.args.self.now c.args.code old c.push.new.self
    (λ (fulls : List FullLink). fulls ++ full ∷ []) c.self.view_is inside c.index_mut.ensures.value one_more

pub returns-then-is_err-clause-err : goal.returns-then-is_err-clause-err
returns-then-is_err-clause-err c =
    let old = c.index_mut.result.now in
    let inside : c.args.code < length c.self.inside.lists.items = omega (arith, c.self.invariant, c.requires) in
    let same : c.push.new.self.items ≡ old.items = search rules in
    contents-written c.self.inside.lists.items c.args.self.now c.args.code old c.push.new.self
    (λ (fulls : List FullLink). fulls) c.self.view_is inside c.index_mut.ensures.value same
    ∙ set-get_or c.args.self.now c.args.code []
