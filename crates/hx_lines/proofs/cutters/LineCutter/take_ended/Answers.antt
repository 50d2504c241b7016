use Rattle.std.proofs.Common.{◌≡◌, ℕ, ◌+◌, ◌-◌, ◌<◌, List, take, drop, length, get_or, ap, sym, subst, ◌∙◌, arith, length-take}
use Rattle.hx_lines.specs.Cutters.{Cutter}
use Rattle.hx_lines.proofs.CutterLaws.{cut_held}
use Rattle.hx_lines.proofs.cutters.LineCutter.take_ended.Goals as goal

pub returns-clause-held : goal.returns-clause-held
returns-clause-held c =
    let start = c.self.inside.start in
    let end = c.self.inside.end in
    let held : List ℕ = take (end - start) (drop start c.self.inside.buffer) in
    let is : c.args.self.now.held ≡ held = ap (λ (v : Cutter). v.held) (sym c.self.view_is) in
    let within : c.args.len < length held = subst (λ (xs : List ℕ). c.args.len < length xs) is c.requires.within in
    let lf : get_or held c.args.len 0 ≡ 10 = subst (λ (xs : List ℕ). get_or xs c.args.len 0 ≡ 10) is c.requires.lf in
    is ∙ cut_held c.self.inside.buffer start (end - start) c.args.len (end - (start + (c.args.len + 1)))
    (omega (arith, within, length-take (end - start) (drop start c.self.inside.buffer))) within lf
