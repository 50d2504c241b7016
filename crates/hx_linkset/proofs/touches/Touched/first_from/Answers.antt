use Rattle.std.proofs.Common.{◌≡◌, ℕ, ◌+◌, ◌/◌, ◌^◌, ◌%◌, length, arith, sym, ◌∙◌, ap, subst, bit_and, Option}
use Rattle.std.specs.Prelude.{MatchOption}
use Rattle.std.specs.Int.Count.{count_trailing_zeros}
use Rattle.hx_linkset.specs.Held.{IsIn}
use Rattle.hx_linkset.specs.Touches.{TouchedAreLogged, MayBeNext, HasTouched, Sought}
use Rattle.hx_linkset.proofs.TouchLaws.{logged-more, logged-fewer, logged-past, logged-before, first-off}
use Rattle.hx_linkset.proofs.touches.Touched.first_from.Goals as goal
use Rattle.hx_linkset.proofs.touches.Touched.first_from.Goals.{then-place-len, else-place-len}

pub returns-then-rest-ne0-clause-found : goal.returns-then-rest-ne0-clause-found
returns-then-rest-ne0-clause-found c =
    let P : Sought → Type 0 = λ s. HasTouched s.links s.cells (c.loop-at.at / 64) c.numbers_in.result in
    let touched : HasTouched c.args.self.now.links c.args.self.now.cells (c.loop-at.at / 64) c.numbers_in.result =
    subst P c.loop-at.invariant.same c.numbers_in.ensures.numbers in
    let place : ℕ = c.loop-at.at + count_trailing_zeros 64 (bit_and c.numbers_in.result c.others.result / 2 ^ (c.loop-at.at % 64)) in
    let before : TouchedAreLogged c.args.self.now c.args.log.now c.args.from place =
    logged-more c.args.self.now c.args.log.now _ c.loop-at.at _ c.loop-at.invariant.before
    (logged-before c.args.self.now c.args.log.now c.loop-at.at c.numbers_in.result c.others.result touched c.others.ensures c.if-rest-ne0.true
    c.numbers_in.type_inv) in
    let off : IsIn c.args.log.now place → ⊥ =
    first-off c.args.self.now c.args.log.now c.loop-at.at c.numbers_in.result c.others.result touched c.others.ensures c.if-rest-ne0.true
    c.numbers_in.type_inv in
    let long : c.len-then-rest-ne0.result ≡ length c.args.self.now.links =
    c.len-then-rest-ne0.ensures.count
    ∙ ap (λ (s : Sought). length s.links) (c.self-in-loop-at.view_is ∙ (c.numbers_in.ensures.same ∙ c.loop-at.invariant.same)) in
    let Q : Option ℕ → Type 0 = λ r. MatchOption r (TouchedAreLogged c.args.self.now c.args.log.now c.args.from (length c.args.self.now.links))
    (MayBeNext c.args.self.now c.args.log.now c.args.from) in
    elim c.if-place-len.branch [
      | then-place-len w ↦ subst Q (sym w.result-is) (record {
        order = omega (arith, c.loop-at.invariant.order);
        inside = omega (arith, long, w.if-place-len.true);
        off = off;
        before = before;
      })
      | else-place-len w ↦ subst Q (sym w.result-is) (logged-fewer c.args.self.now c.args.log.now _ place _ (omega (arith, long, w.if-place-len.false)) before)
    ]

pub loop-at-preserved : goal.loop-at-preserved
loop-at-preserved c =
    let P : Sought → Type 0 = λ s. HasTouched s.links s.cells (c.loop-at.at / 64) c.numbers_in.result in
    let touched : HasTouched c.args.self.now.links c.args.self.now.cells (c.loop-at.at / 64) c.numbers_in.result =
    subst P c.loop-at.invariant.same c.numbers_in.ensures.numbers in
    record {
      same = c.numbers_in.ensures.same ∙ c.loop-at.invariant.same;
      order = omega (arith, c.loop-at.invariant.order);
      before = logged-more c.args.self.now c.args.log.now _ c.loop-at.at _ c.loop-at.invariant.before
          (logged-past c.args.self.now c.args.log.now c.loop-at.at c.numbers_in.result c.others.result touched c.others.ensures
          c.if-rest-ne0.false);
    }
