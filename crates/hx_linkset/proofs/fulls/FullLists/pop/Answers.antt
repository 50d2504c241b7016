use Rattle.std.proofs.Common.{◌≡◌, ℕ, ◌-◌, ◌<◌, length, take, ap, ◌∙◌, vec_len, arith, rules}
use Rattle.hx_linkset.specs.Fulls.{without_last}
use Rattle.hx_linkset.proofs.FullListLaws.{contents-written}
use Rattle.hx_linkset.proofs.fulls.FullLists.pop.Goals as goal

pub returns : goal.returns
returns c =
    let old = c.index_mut.result.now in
    let long : vec_len old ≡ length old.items = search rules in
    let inside : c.args.code < length c.self.inside.lists.items = omega (arith, c.self.invariant, c.requires) in
    contents-written c.self.inside.lists.items c.args.self.now c.args.code old c.pop-last.new.self without_last c.self.view_is inside
    c.index_mut.ensures.value
    (c.pop-last.ensures.rest ∙ ap (λ (n : ℕ). take (n - 1) old.items) long)
