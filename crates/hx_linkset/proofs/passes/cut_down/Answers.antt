use Rattle.std.proofs.Common.{◌≡◌, ℕ, suc, ◌+◌, ◌-◌, ◌∙◌, sym, ap, subst, length, arith}
use Rattle.hx_linkset.specs.Rings.{Rings}
use Rattle.hx_linkset.specs.History.{CanCut, cut_times}
use Rattle.hx_linkset.proofs.RingLaws.{length-cut}
use Rattle.hx_linkset.proofs.passes.cut_down.Goals as goal

pub loop-left-preserved : goal.loop-left-preserved
loop-left-preserved c =
    let less : ℕ = c.loop-left.left - 1 - c.args.kept in
    let one : c.loop-left.left - c.args.kept ≡ suc less = omega arith in
    let can : CanCut (suc less) c.loop-left.chains = rw one at c.loop-left.invariant.can in
    let P : Rings → Type 0 = λ r. CanCut less r in
    record {
      least = omega arith;
      most = omega (arith, c.loop-left.invariant.most);
      long = ap (λ (r : Rings). length r.next) c.cut.ensures
          ∙ (length-cut c.loop-left.chains
          ∙ (let long : length c.loop-left.chains.next - 1 ≡ 30258 + (c.loop-left.left - 1) =
          omega (arith, c.loop-left.invariant.long) in long));
      can = subst P (sym c.cut.ensures) can.1;
      same = ap (λ (r : Rings). cut_times less r) c.cut.ensures
          ∙ (ap (λ n. cut_times n c.loop-left.chains) (sym one) ∙ c.loop-left.invariant.same);
    }
