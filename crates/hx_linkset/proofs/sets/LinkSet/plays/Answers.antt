use Rattle.std.proofs.Common.{◌≡◌, ◌≤◌, length, vec_len, sym, ap, ◌∙◌, arith, rules}
use Rattle.hx_linkset.specs.States.{Standing}
use Rattle.hx_linkset.proofs.StandingLaws.{plays-few, length-standing}
use Rattle.hx_linkset.proofs.sets.LinkSet.plays.Goals as goal

pub overflow_cast-result : goal.overflow_cast-result
overflow_cast-result c =
    let few : length c.self.inside.plays.items ≤ 121 = plays-few _ _ _ c.self.invariant.keeps in
    let long : vec_len c.self.inside.plays ≡ length c.self.inside.plays.items = search rules in
    omega arith

pub returns : goal.returns
returns c =
    let count : c.len.result ≡ length c.self.inside.plays.items = search rules in
    count ∙ (sym (length-standing c.self.inside.colour _ _) ∙ ap (λ (s : Standing). length s.past) c.self.view_is)
